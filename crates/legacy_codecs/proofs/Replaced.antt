-- Laws of the text of events, and of places.
use Rattle.std.proofs.Common.{◌≡◌, ℕ, suc, ◌<◌, List, [], ◌∷◌, ◌++◌, length, drop, map, refl, ap, arith, append-nil, length-append, Bool, false}
use Rattle.std.proofs.{Common.{◌||◌, inl}, lemmas.List.map-append, lemmas.List.Folds.list_any-append}
use Rattle.legacy_base.specs.{declared.results.DecodeEvent.DecodeEvent, declared.results.DecodeEvent.TheVariants.{Scalar}}
use Rattle.legacy_base.specs.{declared.results.DecoderResult.TheVariants.Malformed, Events.shift, Grammar.events_of, States.DecoderState, Calls.DecoderCall}
use Rattle.legacy_text.specs.EncodingForm.{EncodingForm}
use Rattle.legacy_codecs.specs.Replacing.{replaced_scalar, replaced_scalars, is_malformed, has_malformed}

pub replaced-append : (xs ys : List DecodeEvent) → replaced_scalars (xs ++ ys) ≡ replaced_scalars xs ++ replaced_scalars ys
replaced-append xs ys = map-append replaced_scalar xs ys

-- places do not change what is written
pub replaced-shift : (k : ℕ) (events : List DecodeEvent) → replaced_scalars (shift k events) ≡ replaced_scalars events
replaced-shift k [] = refl
replaced-shift k (event ∷ events) = grind (arith, replaced-shift k events)

-- scalars are written unchanged
pub replaced-of_scalars : (cs : List ℕ) → replaced_scalars (map Scalar cs) ≡ cs
replaced-of_scalars [] = refl
replaced-of_scalars (c ∷ cs) = ap (λ (l : List ℕ). c ∷ l) (replaced-of_scalars cs)

pub has_malformed-append : (xs ys : List DecodeEvent) → has_malformed (xs ++ ys) ≡ (has_malformed xs || has_malformed ys)
has_malformed-append xs ys = list_any-append is_malformed xs ys

pub has_malformed-shift : (k : ℕ) (events : List DecodeEvent) → has_malformed (shift k events) ≡ has_malformed events
has_malformed-shift k [] = refl
has_malformed-shift k (event ∷ events) = grind (arith, has_malformed-shift k events)

-- a list of scalars has no malformed sequence
pub has_malformed-of_scalars : (cs : List ℕ) → has_malformed (map Scalar cs) ≡ false
has_malformed-of_scalars [] = refl
has_malformed-of_scalars (c ∷ cs) = has_malformed-of_scalars cs

-- moving places keeps the number of events
pub length-shift : (k : ℕ) (es : List DecodeEvent) → length (shift k es) ≡ length es
length-shift k [] = refl
length-shift k (e ∷ es) = ap suc (length-shift k es)

-- after a call that reports a malformed sequence fewer events are left
pub malformed_less : {form : EncodingForm} {now : DecoderState} {rest : List ℕ} {last : Bool} {free : ℕ} {after : DecoderState} {a b count : ℕ}
    {scalars : List ℕ} →
    DecoderCall form now rest last free after (Malformed a b) count scalars →
    length (events_of after.grammar (after.held ++ drop count rest)) < length (events_of now.grammar (now.held ++ rest))
malformed_less c =
    let x = simp (append-nil, length-append, length-shift) at (ap length (c.progress.events [] (λ _. inl refl))) in
    omega (arith, x)
