-- Calls that fill one output leave free what the rest of the bytes needs.
use Rattle.std.proofs.Common.{◌≡◌, ◌≢◌, ℕ, ◌+◌, ◌-◌, ◌≤◌, Bool, List, length, drop, length-drop, refl, arith}
use Rattle.legacy_base.specs.{declared.results.DecoderResult.DecoderResult, declared.results.DecoderResult.TheVariants.OutputFull, States.DecoderState}
use Rattle.legacy_base.specs.Lengths.{LengthQuery, query_form, answer_units, total_need}
use Rattle.legacy_text.specs.EncodingForm.{EncodingForm, total_unit_count}
use Rattle.legacy_base.proofs.Enough.{total_need-rises, total_need-answer}
use Rattle.legacy_codecs.specs.{declared.results.CoderResult.CoderResult, declared.results.CoderResult.TheVariants.InputEmpty}
use Rattle.legacy_codecs.specs.{QueriedOutput.{NextCall, Fills, QueriedLengthSuffices}, QueriedOutput.Fills.{begun, called}}
use Rattle.legacy_codecs.specs.{QueriedOutput.{NextReplacingCall, ReplacingFills, ReplacingQueriedLengthSuffices}, Replacing.replacing_query}
use Rattle.legacy_codecs.specs.QueriedOutput.ReplacingFills.{begun as begun_replacing, called as called_replacing}

-- the bytes that are left to come after a call with a source of some of them
rest-of : (source : List ℕ) (read bytes : ℕ) → read ≤ length source → length source ≤ bytes →
    (length (drop read source) + (bytes - length source) ≡ bytes - read) × (length source + (bytes - length source) ≡ bytes)
rest-of source read bytes within some = let less = length-drop read source in (omega arith, omega arith)

module _ (query : LengthQuery) (before : DecoderState) (bytes free : ℕ) (after : DecoderState) (answer : DecoderResult) (read : ℕ) (scalars : List ℕ)
    (n : NextCall query before bytes free after answer read scalars) where
  next-lowers : total_need query after (bytes - read) + (total_unit_count (query_form query) scalars + answer_units query answer)
      ≤ total_need query before bytes
  next-lowers =
      let (rest, all) = rest-of n.source read bytes n.call.within n.some in
      rw (rest, all) at (n.call.lowers query refl (bytes - length n.source) (λ l. let e = n.all l in omega arith))

  next-suffices : total_need query before bytes ≤ free → answer ≢ OutputFull
  next-suffices h = grind (arith, total_need-rises)

fills-room : {query : LengthQuery} {from : DecoderState} {bytes free : ℕ} {s : DecoderState} {to_come left : ℕ} →
    Fills query from bytes free s to_come left → total_need query from bytes ≤ free → total_need query s to_come ≤ left
fills-room begun h = h
fills-room {query = query} (called before to_come left f after answer read scalars n) h =
    let r = fills-room f h in
    let low = next-lowers query before to_come left after answer read scalars n in
    omega arith

pub queried_length_suffices : (query : LengthQuery) → QueriedLengthSuffices query
queried_length_suffices query from bytes n units free more e h before to_come left f after answer read scalars next =
    let start = total_need-answer query from bytes n units more e in
    let r : total_need query before to_come ≤ left = fills-room f (omega arith) in
    let low = next-lowers query before to_come left after answer read scalars next in
    (next-suffices query before to_come left after answer read scalars next r, omega arith)

-- ---- calls with replacement

module _ {form : EncodingForm} {before : DecoderState} {bytes free : ℕ} {after : DecoderState} {answer : CoderResult} {read : ℕ} {written : List ℕ}
    {found : Bool} (n : NextReplacingCall form before bytes free after answer read written found) where
  replacing-lowers : total_need (replacing_query form) after (bytes - read) + length written ≤ total_need (replacing_query form) before bytes
  replacing-lowers =
      let (rest, all) = rest-of n.source read bytes n.call.within n.some in
      rw (rest, all) at (n.call.lowers (bytes - length n.source) (λ l. let e = n.all l in omega arith))

  replacing-suffices : total_need (replacing_query form) before bytes ≤ free → answer ≡ InputEmpty
  replacing-suffices h =
      let rises = total_need-rises (replacing_query form) before (length n.source) bytes n.some in n.call.suffices (omega arith)

replacing_fills-room : {form : EncodingForm} {from : DecoderState} {bytes free : ℕ} {s : DecoderState} {to_come left : ℕ} →
    ReplacingFills form from bytes free s to_come left → total_need (replacing_query form) from bytes ≤ free
    → total_need (replacing_query form) s to_come ≤ left
replacing_fills-room begun_replacing h = h
replacing_fills-room (called_replacing before to_come left f after answer read written found n) h =
    let r = replacing_fills-room f h in
    let low = replacing-lowers n in
    omega arith

pub replacing_queried_length_suffices : (form : EncodingForm) → ReplacingQueriedLengthSuffices form
replacing_queried_length_suffices form from bytes n units free more e h before to_come left f after answer read written found next =
    let start = total_need-answer (replacing_query form) from bytes n units more e in
    replacing-suffices next (replacing_fills-room f (omega arith))
