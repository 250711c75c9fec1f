-- The bytes of the codes of gb18030 and GBK.
use Rattle.std.proofs.{Common.{Bool, true, false, refl, arith}, lemmas.Bool.{Decides.nat_tests, lt-ltb}}
use Rattle.{legacy_encoder_engine.specs.PlainCodecs.IsPlainCodec, legacy_chinese.specs.Gb18030Codec.gb18030_codec, legacy_tables.specs.Indexes.FlatIndexes}
use Rattle.legacy_base.specs.{Gb18030.{gb18030_code, gbk_code}, Lengths.{number, ◌⊕◌, ◌⊗◌}}

-- GB18030 and GBK are codecs without modes, whose codes have at most four bytes
pub gb18030_plain : (flat : FlatIndexes) (extended : Bool) → IsPlainCodec (gb18030_codec flat extended) 4
unfolding gb18030_code gbk_code
gb18030_plain flat true = record {
  code = gb18030_code flat.gb18030 flat.ranges flat.gb18030_pua;
  from_utf8 = λ n. number 2 ⊕ number 2 ⊗ n;
  from_utf16 = λ n. number 4 ⊗ n;
  profile_is = refl;
  ascii = λ c h. rw (lt-ltb c 128 h) refl;
  most = 4;
  short = λ c h. grind (arith, nat_tests);
  lengths = omega arith;
}
gb18030_plain flat false = record {
  code = gbk_code flat.gb18030 flat.gb18030_pua;
  from_utf8 = λ n. n ⊕ number 3;
  from_utf16 = λ n. number 2 ⊕ number 2 ⊗ n;
  profile_is = refl;
  ascii = λ c h. rw (lt-ltb c 128 h) refl;
  most = 2;
  short = λ c h. grind (arith, nat_tests);
  lengths = omega arith;
}
