-- What was written if a read, a write or a flush failed.
use Rattle.std.proofs.{Common.{◌≡◌, List, ℕ, Bool, Option, inl, inr, refl, arith, Result, Ok, Err, OnErr, OnOk, IfOk}, KnownBytes.Appends-kept}
use Rattle.std.specs.Io.KnownBytes.{Keeps}
use Rattle.legacy_base.specs.{declared.results.DecodeEvent.DecodeEvent, Encoders.EncoderState, States.DecoderState}
use Rattle.legacy_streams.specs.{declared.recode.RecodeError.RecodeError, declared.recode.RecodeError.TheVariants.{Read, Write}}
use Rattle.legacy_streams.specs.Streams.{AppendsFront, AppendsAtLeast, DecodesAll, DecodesBeginning, DecodesPartly}
use Rattle.legacy_streams.specs.TextEncoding.{EncodesAll, EncodesBeginning, EncodesPartly, EncodesUpTo}
use Rattle.legacy_command.specs.{declared.words.OutputKind.TheVariants.{Lines, Text}, declared.host.Program.Program}
use Rattle.legacy_command.specs.{declared.host.Program.TheVariants.{Recode, Encode}, Host.IsStoppedBy, Program.{Untouched, RecodesInput, RecodesSome}}
use Rattle.legacy_command.specs.Program.{EncodesSome}

-- ---- after a failed read or write

pub failed : {A Q : Type 0} (r : Result A RecodeError) → (r ≡ Err Read → Q) → (r ≡ Err Write → Q) → OnErr r Q
failed (Ok x) read write = tt
failed (Err Read) read write = read refl
failed (Err Write) read write = write refl

-- something is known of a success, and something weaker of an error
pub either : {A E P Q : Type 0} (r : Result A E) → (P → Q) → OnOk r P → OnErr r Q → Q
either (Ok x) weaker ok err = weaker ok
either (Err e) weaker ok err = err

-- what is known of a success holds if there was no error
ok_of : {A E P : Type 0} (r : Result A E) → OnErr r ⊥ → OnOk r P → P
ok_of (Ok x) none ok = ok
ok_of (Err e) none ok = absurd none

-- the same if a flush after it succeeded
pub flushed_ok : {A B E F : Type 0} (P : Type 0) (r : Result A E) (f : Result B F) → OnOk f (OnErr r ⊥) → OnOk r P → OnOk f P
flushed_ok P r (Ok x) none ok = ok_of r none ok
flushed_ok P r (Err e) none ok = tt

pub on_err : {A E P : Type 0} (r : Result A E) → P → OnErr r P
on_err (Ok x) p = tt
on_err (Err e) p = p

pub some_found : {E : Type 0} (P : Bool → Type 0) (r : Result Bool E) → IfOk r P → OnOk r ((found : Bool) × P found)
some_found P (Ok found) p = (found, p)
some_found P (Err e) p = tt

-- ---- a flush changes nothing of what was written

-- what is true of the events, with something weaker that is true of them
module _ {b a : DecoderState} {i j : Option (List ℕ)} {Shown Weaker : List DecodeEvent → Type 0}
    (weaker : (events : List DecodeEvent) → Shown events → Weaker events) where
  weaker_all : DecodesAll b a i j Shown → DecodesAll b a i j Weaker
  weaker_all r = grind (arith, weaker)

  weaker_beginning : DecodesBeginning b a i j Shown → DecodesBeginning b a i j Weaker
  weaker_beginning r = record {
    bytes = r.bytes;
    read = r.read;
    passed = r.passed;
    events = r.events;
    progress = r.progress;
    shown = weaker r.events r.shown;
    settled = r.settled;
    beginning = r.beginning;
  }

weaker_partly : {b a : DecoderState} {i j : Option (List ℕ)} {Done Less Shown Weaker : List DecodeEvent → Type 0}
    → ((events : List DecodeEvent) → Done events → Less events) → ((events : List DecodeEvent) → Shown events → Weaker events)
    → DecodesPartly b a i j Done Shown → DecodesPartly b a i j Less Weaker
unfolding weaker_beginning
weaker_partly less weaker r = record {
  bytes = r.bytes;
  read = r.read;
  last = r.last;
  at_end = r.at_end;
  passed = r.passed;
  left = r.left;
  events = r.events;
  progress = r.progress;
  shown = weaker r.events r.shown;
  beginning = r.beginning;
  between = r.between;
  input_between = r.input_between;
  earlier = weaker_beginning less r.earlier;
  piece = r.piece;
  near = r.near;
  parts = r.parts;
}

module _ {o p q : Option (List ℕ)} (k : Keeps p q) where
  front_kept : {bytes : List ℕ} → AppendsFront o p bytes → AppendsFront o q bytes
  front_kept f = record { sent = f.sent; unsent = f.unsent; parts = f.parts; written = Appends-kept o p q _ f.written k }

  at_least_kept : {bytes : List ℕ} → AppendsAtLeast o p bytes → AppendsAtLeast o q bytes
  at_least_kept f = record { more = f.more; written = Appends-kept o p q _ f.written k }

  up_to_kept : {b a : EncoderState} {text left waited waiting : List ℕ} {last : Bool} → EncodesUpTo b text last a left waited waiting o p
      → EncodesUpTo b text last a left waited waiting o q
  up_to_kept d = grind (arith, Appends-kept, k)

  pub all_kept : {b a : EncoderState} {i j : Option (List ℕ)} → EncodesAll b a i j o p → EncodesAll b a i j o q
  all_kept r = grind (arith, Appends-kept, k)

  beginning_kept : {b a : EncoderState} {i j : Option (List ℕ)} → EncodesBeginning b a i j o p → EncodesBeginning b a i j o q
  beginning_kept r = grind (arith, Appends-kept, k)

  partly_kept : {b a : EncoderState} {i j : Option (List ℕ)} → EncodesPartly b a i j o p → EncodesPartly b a i j o q
  partly_kept r = record {
    bytes = r.bytes;
    read = r.read;
    last = r.last;
    at_end = r.at_end;
    text = r.text;
    is_text = r.is_text;
    front = (r.front.0, r.front.1, up_to_kept r.front.2);
    between = r.between;
    input_between = r.input_between;
    output_between = r.output_between;
    earlier = r.earlier;
    piece = r.piece;
    near = r.near;
    parts = r.parts;
    sent = r.sent;
    written = Appends-kept r.output_between p q _ r.written k;
  }

  pub encoded_kept : {b : EncoderState} {i j : Option (List ℕ)} → EncodesSome b i j o p → EncodesSome b i j o q
  encoded_kept (a, inl r) = (a, inl (all_kept r))
  encoded_kept (a, inr (inl r)) = (a, inr (inl (beginning_kept r)))
  encoded_kept (a, inr (inr r)) = (a, inr (inr (partly_kept r)))

module _ {b : DecoderState} {i j : Option (List ℕ)} (o p q : Option (List ℕ)) (k : Keeps p q) where
  pub lines_kept : RecodesInput Lines b i j o p → RecodesInput Lines b i j o q
  lines_kept (a, r) = (a, weaker_all (λ e w. Appends-kept o p q _ w k) r)

  pub text_kept : RecodesInput Text b i j o p → RecodesInput Text b i j o q
  text_kept (a, (found, r)) = (a, (found, weaker_all (λ e w. (w.0, Appends-kept o p q _ w.1 k)) r))

  pub some_lines_kept : RecodesSome Lines b i j o p → RecodesSome Lines b i j o q
  some_lines_kept (a, inl r) = (a, inl (weaker_all (λ e w. Appends-kept o p q _ w k) r))
  some_lines_kept (a, inr (inl r)) = (a, inr (inl (weaker_beginning (λ e w. Appends-kept o p q _ w k) r)))
  some_lines_kept (a, inr (inr r)) = (a, inr (inr (weaker_partly (λ e w. at_least_kept k w) (λ e w. front_kept k w) r)))

  pub some_text_kept : RecodesSome Text b i j o p → RecodesSome Text b i j o q
  some_text_kept (a, inl (found, r)) = (a, inl (found, weaker_all (λ e w. (w.0, Appends-kept o p q _ w.1 k)) r))
  some_text_kept (a, inr (inl r)) = (a, inr (inl (weaker_beginning (λ e w. Appends-kept o p q _ w k) r)))
  some_text_kept (a, inr (inr r)) = (a, inr (inr (weaker_partly (λ e w. at_least_kept k w) (λ e w. front_kept k w) r)))

pub untouched : (program : Program) (words : List (List ℕ)) (files : List (Option (List ℕ))) (i j o p : Option (List ℕ))
    → Untouched i j o p → IsStoppedBy program words files i j o p
untouched Recode words files i j o p same = inl same
untouched Encode words files i j o p same = inl same
