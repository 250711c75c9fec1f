use Rattle.std.proofs.{Common.{ℕ, List, find, ◌∙◌, ap, refl}, lemmas.Str.Ascii.trim_ascii_is}
use Rattle.legacy_index_files.specs.{declared.encodings.TheConstants.ENCODINGS, Labels.{is_among, labels_of, encoding_labelled}}
use Rattle.legacy_index_files.proofs.encodings.Encoding.for_label.Goals as goal

-- the encoding of the trimmed label
pub returns : goal.returns
unfolding encoding_labelled
returns c =
    c.first_labelled.ensures
    ∙ ap (λ (label : List ℕ). find (λ e. is_among label (labels_of e)) ENCODINGS) (trim_ascii_is _ _ _ refl c.trim_ascii.ensures.value)
