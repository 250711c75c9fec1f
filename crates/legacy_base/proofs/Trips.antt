-- Codes that decode to one scalar whatever bytes follow, and texts of such codes.
use Rattle.std.proofs.{lemmas.Bool.Decides.nat_tests, Common.{◌≡◌, ℕ, ◌<◌, List, [], ◌∷◌, ◌++◌, length, map, filter, Option, Some, None, is_some, Bool}}
use Rattle.std.proofs.{Common.{false, refl, ap, ap₂, arith}, lemmas.Bool.or_parts, lemmas.List.drop_at}
use Rattle.std.specs.List.{list_any}
use Rattle.legacy_base.specs.{declared.results.DecodeEvent.TheVariants.Scalar}
use Rattle.legacy_base.specs.{declared.results.EncodeEvent.EncodeEvent, declared.results.EncodeEvent.TheVariants.Byte, Events.shift, Fronts.{Front, reads, cut}}
use Rattle.legacy_base.specs.{EncodeEvents.{code_events, plain_events}, RoundTrips.bytes_of}
use Rattle.legacy_base.proofs.{Shifts.shift-scalars, Cuts.{cut-nil, cut-front}}

-- the list begins with the front, whatever bytes follow
abbrev pub HasFront : (ℕ → List ℕ → Front) → List ℕ → Front → Type 0
HasFront front [] f = ⊥
HasFront front (b ∷ rest) f = front b rest ≡ f

-- the bytes decode to c, whatever bytes follow
pub record GivesScalar (front : ℕ → List ℕ → Front) (bytes : List ℕ) (c : ℕ) : Type 0 where
  pub some : 0 < length bytes
  pub gives : (more : List ℕ) → HasFront front (bytes ++ more) (reads (length bytes) (c ∷ []))

-- the events of the code at the beginning of a list, and then those of the bytes after it
cut-code : (front : ℕ → List ℕ → Front) (bytes more : List ℕ) (c : ℕ) → GivesScalar front bytes c
    → cut front 0 0 (bytes ++ more) ≡ Scalar c ∷ shift (length bytes) (cut front 0 0 more)
cut-code front bytes more c h = grind (arith, nat_tests, cut-front, drop_at bytes more (length bytes) refl)

-- ---- the bytes of events

-- events that are all bytes and begin with `own`: the remaining events are bytes too
pub record BeginsWithBytes (own bytes : List ℕ) (events : List EncodeEvent) : Type 0 where
  pub rest : List ℕ
  pub split : bytes ≡ own ++ rest
  pub after : events ≡ map Byte rest

pub same_byte_lists : (xs ys : List ℕ) → map Byte xs ≡ map Byte ys → xs ≡ ys
same_byte_lists [] [] e = refl
same_byte_lists (x ∷ xs) (y ∷ ys) e = grind (arith, same_byte_lists xs ys)
same_byte_lists _ _ e = cc

pub begins_with : (own bytes : List ℕ) (events : List EncodeEvent) → map Byte own ++ events ≡ map Byte bytes → BeginsWithBytes own bytes events
begins_with [] bytes events e = record { rest = bytes; split = refl; after = e }
begins_with (b ∷ own) [] events e = cc
begins_with (b ∷ own) (a ∷ bytes) events e =
    let t = begins_with own bytes events (cc) in
    record { rest = t.rest; split = (let first : a ≡ b = cc in ap₂ ◌∷◌ first t.split); after = t.after }

-- a scalar whose events are all bytes has a code
pub record HasCode (c : ℕ) (code : Option (List ℕ)) (bytes : List ℕ) (events : List EncodeEvent) : Type 0 where
  pub own : List ℕ
  pub code_is : code ≡ Some own
  pub begins : BeginsWithBytes own bytes events

pub has_code : (c : ℕ) (code : Option (List ℕ)) (bytes : List ℕ) (events : List EncodeEvent) → code_events c code ++ events ≡ map Byte bytes →
    HasCode c code bytes events
has_code c None [] events e = cc
has_code c None (b ∷ bytes) events e = cc
has_code c (Some own) bytes events e = record { own = own; code_is = refl; begins = begins_with own bytes events e }

-- ---- the bytes among events

pub bytes_of-after : (bytes : List ℕ) (events : List EncodeEvent) → bytes_of (map Byte bytes ++ events) ≡ bytes ++ bytes_of events
unfolding bytes_of
bytes_of-after [] events = refl
bytes_of-after (b ∷ bytes) events = ap (λ (l : List ℕ). b ∷ l) (bytes_of-after bytes events)

pub bytes_of-bytes : (bytes : List ℕ) → bytes_of (map Byte bytes) ≡ bytes
unfolding bytes_of
bytes_of-bytes [] = refl
bytes_of-bytes (b ∷ bytes) = ap (λ (l : List ℕ). b ∷ l) (bytes_of-bytes bytes)

-- an unmappable scalar gives no bytes
pub bytes_of-unmappable : (c : ℕ) (events : List EncodeEvent) → bytes_of (code_events c None ++ events) ≡ bytes_of events
unfolding bytes_of
bytes_of-unmappable c events = refl

pub bytes_of-nothing : bytes_of [] ≡ []
unfolding bytes_of
bytes_of-nothing = refl

-- ---- texts

-- the scalars of a text that have a code
abbrev pub coded : (ℕ → Option (List ℕ)) → List ℕ → List ℕ
coded code text = filter (λ c. is_some (code c)) text

-- the events of the bytes of a text, if each code decodes to one scalar
pub plain-read : (front : ℕ → List ℕ → Front) (code : ℕ → Option (List ℕ)) (read : ℕ → ℕ) (lost : ℕ → Bool)
    → ((c : ℕ) (bytes : List ℕ) → lost c ≡ false → code c ≡ Some bytes → GivesScalar front bytes (read c)) → (text : List ℕ) → list_any lost text ≡ false
    → cut front 0 0 (bytes_of (plain_events code text)) ≡ map Scalar (map read (coded code text))
unfolding plain_events
plain-read front code read lost each [] none = rw bytes_of-nothing (cut-nil front)
plain-read front code read lost each (c ∷ text) none =
    let kept = or_parts (lost c) (list_any lost text) none in
    let later = plain-read front code read lost each text kept.1 in
    let first = λ (own : List ℕ) (e : code c ≡ Some own). cut-code front own (bytes_of (plain_events code text)) (read c) (each c own kept.0 e) in
    grind (arith, nat_tests, bytes_of-unmappable, bytes_of-after, first, shift-scalars)

-- no scalar of a text is lost if none can be
pub none_lost : (text : List ℕ) → list_any (λ (c : ℕ). false) text ≡ false
none_lost [] = refl
none_lost (c ∷ text) = none_lost text

-- if all events of a text are bytes, each of its scalars has a code
pub plain-coded : (code : ℕ → Option (List ℕ)) (text bytes : List ℕ) → plain_events code text ≡ map Byte bytes → coded code text ≡ text
unfolding plain_events
plain-coded code [] bytes e = refl
plain-coded code (c ∷ text) bytes e =
    let here = has_code c (code c) bytes (plain_events code text) e in
    rw here.code_is (ap (λ (l : List ℕ). c ∷ l) (plain-coded code text here.begins.rest here.begins.after))
