-- The length queries of a decoder.
use Rattle.legacy_base.specs.Lengths.{LengthQuery, to_utf8, to_utf8_without_replacement, to_utf16}
use Rattle.legacy_c.specs.declared.decoder_tasks.Query.{Query}
use Rattle.legacy_c.specs.declared.decoder_tasks.Query.TheVariants as query

-- the query of the library
abbrev pub decoder_query : Query → LengthQuery
decoder_query query.Utf8 = to_utf8
decoder_query query.Utf8WithoutReplacement = to_utf8_without_replacement
decoder_query query.Utf16 = to_utf16
