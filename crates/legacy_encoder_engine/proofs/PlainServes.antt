-- The codecs without modes: their needs are enough for their scalars, and each move writes the code of its scalar.
use Rattle.std.proofs.Common.{◌/◌, ◌%◌, ◌≡◌, ◌∙◌, ℕ, ◌+◌, ◌-◌, ◌≤◌, ◌<◌, List, [], ◌∷◌, ◌++◌, length, refl, sym, ap, subst, arith, Bool, false, Some}
use Rattle.std.proofs.{Common.{Option, cond, option_map, ltb}, lemmas.Bool.{cases_lt, lt-ltb, le-ltb}, lemmas.Bool.Decides.nat_tests}
use Rattle.legacy_text.specs.{EncodingForm.{EncodingForm, Utf8, Utf16, unit_count}, UnitCodes.IsNoSurrogate}
use Rattle.legacy_base.specs.Encoders.{Codec, encoder_profile, EncoderState, new_encoder, code, encoded, scalar_need}
use Rattle.legacy_base.specs.declared.modes.EncoderMode.{EncoderMode, TheVariants.Ascii}
use Rattle.legacy_base.specs.{EncoderProfile.{EncoderProfile, differs, plain_encoder}, EncodeEvents.{code_events, code_length, plain_events}}
use Rattle.legacy_base.specs.Lengths.{Formula, number}
use Rattle.legacy_base.specs.Lengths.{value}
use Rattle.legacy_text.proofs.CodeUnits.{encoding}
use Rattle.legacy_base.proofs.SameUnits.{some_unit}
use Rattle.legacy_encoder_engine.specs.{declared.moves.EncoderMove.TheVariants.{One, Two}, declared.moves.EncoderMove.EncoderMove}
use Rattle.legacy_encoder_engine.specs.Moves.{Moves, IsCode, is_escape, move_bytes, move_report, wants_escape}
use Rattle.legacy_encoder_engine.specs.{ProfileSuffices.{mode_need, Serves}, UnfinishedCall.{PutsCode, ReadsByte}, WrittenUnits.{HasUnitCode, ReadsUnit}}
use Rattle.legacy_encoder_engine.specs.PlainCodecs.{HasPlainLengths, IsPlainCodec, HasByte}
use Rattle.legacy_encoder_engine.proofs.{CallUnderWay.state_stays}

pub differs-same : (m : EncoderMode) → differs m m ≡ false
differs-same m = grind arith

-- a scalar past ASCII has at least two bytes in UTF-8
pub two_units : (c : ℕ) → 128 ≤ c → 2 ≤ unit_count Utf8 c
two_units c a = grind (arith, nat_tests, encoding)

-- ---- the profile

module _ (code : ℕ → Option (List ℕ)) (past most : ℕ) (from_utf8 from_utf16 : Formula → Formula)
    (same : (c : ℕ) → c < 128 → code c ≡ Some (c ∷ [])) (short : (c : ℕ) → 128 ≤ c → code_length (code c) ≤ most)
    (f : HasPlainLengths past most from_utf8 from_utf16) where
  abbrev P : EncoderProfile
  P = plain_encoder code past from_utf8 from_utf16

  one : (c : ℕ) → c < 128 → code_length (code c) ≤ 1
  one c a = let e = ap code_length (same c a) in omega arith

  low : (mode : EncoderMode) (c : ℕ) (form : EncodingForm) (t : ℕ)
      → mode_need P form mode t + code_length (code c) ≤ mode_need P form mode (unit_count form c + t)
  low mode c Utf16 t =
      let l = f.low16 (unit_count Utf16 c) t (code_length (code c)) (some_unit Utf16 c) in let s = f.fits in grind (arith, cases_lt c 128, one, short)
  low mode c Utf8 t =
      let l = f.ascii8 (unit_count Utf8 c) t (code_length (code c)) (some_unit Utf8 c) in
      let m = f.low8 (unit_count Utf8 c) t (code_length (code c)) in grind (arith, cases_lt c 128, two_units, one, short)

  enough : (mode : EncoderMode) (c : ℕ) (form : EncodingForm) (t : ℕ) → cond (ltb c 128) 1 past ≤ mode_need P form mode (unit_count form c + t)
  enough mode c Utf16 t =
      let l = f.enough16 (unit_count Utf16 c) t (some_unit Utf16 c) in let s = f.fits in grind arith
  enough mode c Utf8 t =
      let l = f.ascii8 (unit_count Utf8 c) t 1 (some_unit Utf8 c) (omega arith) in
      let m = f.enough8 (unit_count Utf8 c) t in grind (arith, nat_tests, two_units)

  rises : (form : EncodingForm) (m k : ℕ) → m ≤ k → value (P.formula form (number m)) ≤ value (P.formula form (number k))
  rises form m k h =
      let e : k - m + m ≡ k = omega arith in
      let r16 = f.low16 (k - m) m 0 in
      let r8 = f.ascii8 (k - m) m 0 in
      grind (arith, cases_lt m k)

  profile_serves : Serves (plain_encoder code past from_utf8 from_utf16)
  unfolding plain_events
  profile_serves = record {
    nothing = λ mode. refl;
    settled = λ mode c. differs-same mode;
    low = low;
    enough = enough;
    escape_low = λ mode c e form t. cc (differs-same mode);
    escape_enough = λ mode c e form t. cc (differs-same mode);
    end = λ mode form. omega arith;
    escapes = λ mode e. cc;
    rises = rises;
  }

-- ---- the moves

-- the state writes the scalar c as its code, or reports r
pub record WritesHere (state : EncoderState) (r c : ℕ) : Type 0 where
  pub law : (more : List ℕ) (ended : Bool) → encoded state (c ∷ more) ended ≡ code_events r (code state c) ++ encoded state more ended
  pub fits : code_length (code state c) ≤ scalar_need state c
  pub asks : wants_escape state c ≡ false

module _ (state : EncoderState) (r c : ℕ) (here : WritesHere state r c) where
  -- then a move that writes the code is correct
  pub here_moves : (move : EncoderMove) → IsCode (code state c) r move → Moves state c state move
  here_moves move e = grind (arith, here.law, here.fits, here.asks, state_stays state c here.asks)

-- a profile without modes, in which a scalar past ASCII needs `past` bytes
record ActsPlainly (p : EncoderProfile) (past : ℕ) : Type 0 where
  law : (c : ℕ) (more : List ℕ) (ended : Bool) → p.events Ascii (c ∷ more) ended ≡ code_events c (p.code c) ++ p.events Ascii more ended
  mode : (c : ℕ) → p.mode_for Ascii c ≡ Ascii
  need : (c : ℕ) → p.scalar_need c ≡ cond (ltb c 128) 1 past

acts : (code : ℕ → Option (List ℕ)) (past : ℕ) (from_utf8 from_utf16 : Formula → Formula) → ActsPlainly (plain_encoder code past from_utf8 from_utf16) past
unfolding plain_events
acts code past from_utf8 from_utf16 = record { law = λ c more ended. refl; mode = λ c. refl; need = λ c. refl }

module _ (codec : Codec) (past : ℕ) (p : IsPlainCodec codec past) where
  abbrev S : EncoderState
  S = new_encoder codec

  pub plain_serves : Serves (encoder_profile codec)
  plain_serves = subst Serves (sym p.profile_is) (profile_serves p.code past p.most p.from_utf8 p.from_utf16 p.ascii p.short p.lengths)

  acts_plainly : ActsPlainly (encoder_profile codec) past
  acts_plainly = subst (λ q. ActsPlainly q past) (sym p.profile_is) (acts p.code past p.from_utf8 p.from_utf16)

  code_is : (c : ℕ) → code S c ≡ p.code c
  code_is c = ap (λ (q : EncoderProfile). q.code c) p.profile_is

  -- the need of ASCII scalars and of other scalars
  pub ascii_need : (c : ℕ) → c < 128 → scalar_need S c ≡ 1
  ascii_need c h = acts_plainly.need c ∙ rw (lt-ltb c 128 h) refl

  pub need_past_ascii : (c : ℕ) → 128 ≤ c → scalar_need S c ≡ past
  need_past_ascii c h = acts_plainly.need c ∙ rw (le-ltb c 128 h) refl

  pub widest_need : (c : ℕ) → scalar_need S c ≤ past
  widest_need c = let need = acts_plainly.need c in let fits = p.lengths.fits in grind arith

  fits : (c : ℕ) → code_length (code S c) ≤ scalar_need S c
  fits c = grind (arith, code_is c, p.ascii c, cases_lt c 128, ascii_need c, need_past_ascii c, p.short c, p.lengths.fits)

  -- a move that writes the code of its scalar is correct
  pub plain_moves : (c : ℕ) (move : EncoderMove) → IsCode (code S c) c move → Moves S c S move
  plain_moves c = here_moves S c c (record { law = acts_plainly.law c; fits = fits c; asks = rw (acts_plainly.mode c) refl })

  pub plain_code : (c : ℕ) → c < 128 → code S c ≡ Some (c ∷ [])
  plain_code c low = code_is c ∙ p.ascii c low

  pub plain_ascii : (c : ℕ) → c < 128 → ReadsByte S 0 c c
  plain_ascii c low = grind (arith, ascii_need c, plain_moves c (One c), plain_code c)

  pub plain_byte : (c byte : ℕ) → HasByte codec past c byte → ReadsByte S 0 c byte
  plain_byte c byte is = record { fits = let need = widest_need c in omega (arith, is.0); moves = plain_moves c (One byte) is.1 }

  -- the bytes of a code unit
  module _ (c both : ℕ) (bmp : IsNoSurrogate c) (own : HasUnitCode codec c both) where
    pub plain_one : c < 128 → ReadsUnit S c both 1
    plain_one l =
        record { bmp = bmp; move = One (both % 256); moves = plain_moves c (One (both % 256)) (own.ascii l); reads = refl; silent = refl; bytes = refl }

    pub plain_two : 128 ≤ c → ReadsUnit S c both 2
    plain_two l =
        let move = Two (both % 256) (both / 256) in
        record { bmp = bmp; move = move; moves = plain_moves c move (own.past l); reads = refl; silent = refl; bytes = refl }

  -- a code that was written
  pub plain_puts : (c : ℕ) (move : EncoderMove) → IsCode (code S c) c move → is_escape move ≡ false
      → move_report move ≡ [] → (old new : List ℕ) (at end : ℕ) → new ≡ old ++ move_bytes move
      → end ≡ at + length (move_bytes move) → PutsCode S c old at new end
  plain_puts c move is reads silent old new at end bytes ends =
      record { move = move; moves = plain_moves c move is; reads = reads; silent = silent; bytes = bytes; ends = ends }

  -- the bytes of a code fit
  pub plain_fits : (c : ℕ) (move : EncoderMove) → IsCode (code S c) c move → length (move_bytes move) ≤ past
  plain_fits c move is = let need = widest_need c in let moves = plain_moves c move is in omega (arith, moves.fits)

-- ---- the lengths of codes

pub short_if : (t : Bool) (a b : Option (List ℕ)) (n : ℕ) → code_length a ≤ n → code_length b ≤ n → code_length (cond t a b) ≤ n
short_if t a b n p q = grind arith

pub short_map : {A : Type 0} (f : A → List ℕ) (o : Option A) (n : ℕ) → ((p : A) → length (f p) ≤ n) → code_length (option_map f o) ≤ n
short_map f o n h = grind arith

-- the code of a scalar past ASCII
pub short_past : (c : ℕ) (a b : Option (List ℕ)) (n : ℕ) → 128 ≤ c → code_length b ≤ n → code_length (cond (ltb c 128) a b) ≤ n
short_past c a b n h q = rw (le-ltb c 128 h) q

pub ruleset plain_steps = (plain_serves, ascii_need, need_past_ascii, widest_need)

pub ruleset put_steps = (plain_fits, plain_code)

pub ruleset unit_steps = (plain_one, plain_two)
