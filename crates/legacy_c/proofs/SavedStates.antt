-- The numbers of a decoder's state, before and after a call.
use Rattle.std.proofs.Common.{arith, ◌≡◌, ◌∙◌, ℕ, ◌+◌, ◌-◌, ◌≤◌, List, [], ◌∷◌, ◌++◌, length, drop, take, refl, sym, ap, ap₂}
use Rattle.std.proofs.Common.{Bool, true, false, IsTrue, Option, Some, None, if◌then◌else◌, ◌==◌, option_map}
use Rattle.std.specs.Prelude.{IfNone, IfSome, MatchOption}
use Rattle.std.proofs.Common.{append_assoc, length-append, length-drop, length-take}
use Rattle.std.proofs.lemmas.List.{append_cancel_right, take-append-drop, drop-append-le}
use Rattle.legacy_base.specs.Grammar.{Grammar, as_new, single_byte, user_defined, replacement, utf16, big5, lead_trail, shift_jis, euc_jp, gb18030, iso_2022_jp}
use Rattle.legacy_base.specs.{States.{DecoderState, begins_in_ascii, may_hold, state_of}, DecoderActs.has_reported, Calls.{Progress}}
use Rattle.legacy_base.specs.declared.results.DecodeEvent.{DecodeEvent}
use Rattle.legacy_base.specs.declared.modes.DecoderMode.{DecoderMode, TheVariants.{Ascii, Roman, Katakana, TwoByte}}
use Rattle.legacy_c.specs.Saved.{decoder_mode, grammar_mode, grammar_of, mode_number, plain_grammar, replacement_of, Saves, SavesNone}
use Rattle.legacy_c.specs.DecoderCalls.{Reads}
use Rattle.legacy_c.specs.declared.index_tables.IndexTables.{IndexTables}
use Rattle.legacy_c.specs.declared.saved.SavedDecoder.{SavedDecoder}

-- a grammar without a mode
pub mode_zero : (g : Grammar) → begins_in_ascii g ≡ true → has_reported g ≡ false → grammar_mode g ≡ 0
mode_zero g a r = grind arith

-- ---- the codec stays, and the mode is that of the grammar after

abbrev has_mode : Grammar → Bool
has_mode (iso_2022_jp jis0208 mode) = true
has_mode (replacement reported) = true
has_mode g = false

mode_kept : (g : Grammar) → has_mode (as_new g) ≡ has_mode g
mode_kept g = grind arith

plain_is : (g : Grammar) → has_mode g ≡ false → as_new g ≡ g
plain_is g h = grind (arith, h)

plain_zero : (g : Grammar) → has_mode g ≡ false → grammar_mode g ≡ 0
plain_zero g h = grind (arith, h)

plain_same : (g g' : Grammar) → has_mode g ≡ false → as_new g' ≡ as_new g → g' ≡ g
plain_same g g' h e =
    let is : as_new g' ≡ g = e ∙ plain_is g h in
    let plain : has_mode g' ≡ false = sym (mode_kept g') ∙ ap has_mode is ∙ h in
    sym (plain_is g' plain) ∙ is

iso_kept : (g : Grammar) (j : List ℕ) → as_new g ≡ iso_2022_jp j Ascii → (mode : DecoderMode) × (g ≡ iso_2022_jp j mode)
iso_kept (iso_2022_jp k mode) j h = (mode, grind (arith, h))
iso_kept (single_byte t) j h = grind (arith, h)
iso_kept user_defined j h = grind (arith, h)
iso_kept (replacement r) j h = grind (arith, h)
iso_kept (utf16 b) j h = grind (arith, h)
iso_kept (big5 i) j h = grind (arith, h)
iso_kept (lead_trail l p i) j h = grind (arith, h)
iso_kept (shift_jis i) j h = grind (arith, h)
iso_kept (euc_jp i k) j h = grind (arith, h)
iso_kept (gb18030 i r) j h = grind (arith, h)

replacement_kept : (g : Grammar) → as_new g ≡ replacement false → (reported : Bool) × (g ≡ replacement reported)
replacement_kept (replacement r) h = (r, refl)
replacement_kept (single_byte t) h = grind (arith, h)
replacement_kept user_defined h = grind (arith, h)
replacement_kept (iso_2022_jp k mode) h = grind (arith, h)
replacement_kept (utf16 b) h = grind (arith, h)
replacement_kept (big5 i) h = grind (arith, h)
replacement_kept (lead_trail l p i) h = grind (arith, h)
replacement_kept (shift_jis i) h = grind (arith, h)
replacement_kept (euc_jp i k) h = grind (arith, h)
replacement_kept (gb18030 i r) h = grind (arith, h)

-- the grammar of a codec and a mode, by that of a codec without modes
abbrev by_mode : List ℕ → Option Grammar → ℕ → ℕ → Option Grammar
by_mode jis0208 plain codec mode =
    if codec == 6 then option_map (iso_2022_jp jis0208) (decoder_mode mode)
    else if codec == 9 then replacement_of mode
    else if mode == 0 then plain
    else None

module _ (j : List ℕ) (p : Option Grammar) (no_mode : (g : Grammar) → p ≡ Some g → has_mode g ≡ false) (codec mode : ℕ) where
  of_plain : (g : Grammar) → has_mode g ≡ false → by_mode j p codec mode ≡ Some g → by_mode j p codec 0 ≡ Some g
  of_plain g h e = grind (arith, h, e)

  of_iso : (k : List ℕ) (m m' : DecoderMode) → by_mode j p codec mode ≡ Some (iso_2022_jp k m) → by_mode j p codec (mode_number m') ≡ Some (iso_2022_jp k m')
  of_iso k m Ascii e = grind (arith, e, no_mode (iso_2022_jp k m))
  of_iso k m Roman e = grind (arith, e, no_mode (iso_2022_jp k m))
  of_iso k m Katakana e = grind (arith, e, no_mode (iso_2022_jp k m))
  of_iso k m TwoByte e = grind (arith, e, no_mode (iso_2022_jp k m))

  of_replacement : (r r' : Bool) → by_mode j p codec mode ≡ Some (replacement r) → by_mode j p codec (grammar_mode (replacement r')) ≡ Some (replacement r')
  of_replacement r true e = grind (arith, e, no_mode (replacement r))
  of_replacement r false e = grind (arith, e, no_mode (replacement r))

no_mode : (tables : IndexTables) (codec : ℕ) (g : Grammar) → plain_grammar tables codec ≡ Some g → has_mode g ≡ false
no_mode tables codec g e = grind (arith, e)

plain_grammar_stays : (tables : IndexTables) (codec mode : ℕ) (g g' : Grammar) → has_mode g ≡ false → grammar_of tables codec mode ≡ Some g
    → as_new g' ≡ as_new g → grammar_of tables codec (grammar_mode g') ≡ Some g'
plain_grammar_stays tables codec mode g g' plain e h =
    let same = plain_same g g' plain h in
    let zero = ap grammar_mode same ∙ plain_zero g plain in
    ap (λ (n : ℕ). grammar_of tables codec n) zero
    ∙ (of_plain tables.jis0208.now (plain_grammar tables codec) (no_mode tables codec) codec mode g plain e ∙ ap Some (sym same))

pub same_grammar : (tables : IndexTables) (codec mode : ℕ) (g g' : Grammar) → grammar_of tables codec mode ≡ Some g → as_new g' ≡ as_new g
    → grammar_of tables codec (grammar_mode g') ≡ Some g'
same_grammar tables codec mode (iso_2022_jp k m) g' e h =
    let kept = iso_kept g' k h in
    rw kept.1 (of_iso tables.jis0208.now (plain_grammar tables codec) (no_mode tables codec) codec mode k m kept.0 e)
same_grammar tables codec mode (replacement r) g' e h =
    let kept = replacement_kept g' h in
    rw kept.1 (of_replacement tables.jis0208.now (plain_grammar tables codec) (no_mode tables codec) codec mode r kept.0 e)
same_grammar tables codec mode (single_byte t) g' e h = plain_grammar_stays tables codec mode (single_byte t) g' refl e h
same_grammar tables codec mode user_defined g' e h = plain_grammar_stays tables codec mode user_defined g' refl e h
same_grammar tables codec mode (utf16 b) g' e h = plain_grammar_stays tables codec mode (utf16 b) g' refl e h
same_grammar tables codec mode (big5 i) g' e h = plain_grammar_stays tables codec mode (big5 i) g' refl e h
same_grammar tables codec mode (lead_trail l p i) g' e h = plain_grammar_stays tables codec mode (lead_trail l p i) g' refl e h
same_grammar tables codec mode (shift_jis i) g' e h = plain_grammar_stays tables codec mode (shift_jis i) g' refl e h
same_grammar tables codec mode (euc_jp i k) g' e h = plain_grammar_stays tables codec mode (euc_jp i k) g' refl e h
same_grammar tables codec mode (gb18030 i r) g' e h = plain_grammar_stays tables codec mode (gb18030 i r) g' refl e h

-- at most five bytes are held back
too_long : (g : Grammar) (a b c d e f : ℕ) (rest : List ℕ) → may_hold g (a ∷ b ∷ c ∷ d ∷ e ∷ f ∷ rest) ≡ true → ⊥
too_long (single_byte t) a b c d e f rest h = grind (arith, h)
too_long user_defined a b c d e f rest h = grind (arith, h)
too_long (replacement r) a b c d e f rest h = grind (arith, h)
too_long (utf16 be) a b c d e f rest h = grind (arith, h)
too_long (big5 i) a b c d e f rest h = grind (arith, h)
too_long (lead_trail l p i) a b c d e f rest h = grind (arith, h)
too_long (shift_jis i) a b c d e f rest h = grind (arith, h)
too_long (euc_jp i k) a b c d e f rest h = grind (arith, h)
too_long (gb18030 i r) a b c d e f rest h = grind (arith, h)
too_long (iso_2022_jp i m) a b c d e f rest h = grind (arith, h)

pub few_held : (g : Grammar) (held : List ℕ) → may_hold g held ≡ true → length held ≤ 5
few_held g [] h = omega arith
few_held g (a ∷ []) h = omega arith
few_held g (a ∷ b ∷ []) h = omega arith
few_held g (a ∷ b ∷ c ∷ []) h = omega arith
few_held g (a ∷ b ∷ c ∷ d ∷ []) h = omega arith
few_held g (a ∷ b ∷ c ∷ d ∷ e ∷ []) h = omega arith
few_held g (a ∷ b ∷ c ∷ d ∷ e ∷ f ∷ rest) h = let none = too_long g a b c d e f rest h in grind (arith, none)

pub is_true : {b : Bool} → IsTrue b → b ≡ true
is_true {b} h = grind arith

pub true_is : {b : Bool} → b ≡ true → IsTrue b
true_is {b} h = grind arith

-- what a call says of the bytes read
pub reads_by : {ended : Bool} {before : DecoderState} {source : List ℕ} {passed : ℕ} {after : DecoderState} {read : ℕ} {out : List DecodeEvent}
    → Progress ended before source passed after (drop read source) out → read ≤ length source → IsTrue (may_hold after.grammar after.held)
    → Reads before source read after
reads_by {passed = passed} p within allowed =
    record { within = within; passed = passed; counts = p.counts; rest = p.rest; codec = p.codec; allowed = λ h. allowed }

-- nothing is read, and the state stays
pub reads_none : (state : DecoderState) → Reads state [] 0 state
reads_none state = record { within = omega arith; passed = 0; counts = omega arith; rest = refl; codec = refl; allowed = λ h. h }

pub may_after : {tables : IndexTables} {saved : SavedDecoder} {before after : DecoderState} {source : List ℕ} {read : ℕ}
    → Saves tables saved before → Reads before source read after → may_hold after.grammar after.held ≡ true
may_after s r = is_true (r.allowed (true_is s.may))

pub grammar_after : {tables : IndexTables} {saved : SavedDecoder} {before after : DecoderState} {source : List ℕ} {read : ℕ}
    → Saves tables saved before → Reads before source read after
    → grammar_of tables saved.codec (grammar_mode after.grammar) ≡ Some after.grammar
grammar_after {tables} {saved} {before} {after} s r = same_grammar tables saved.codec saved.mode before.grammar after.grammar s.grammar r.codec

pub few_after : {tables : IndexTables} {saved : SavedDecoder} {before after : DecoderState} {source : List ℕ} {read : ℕ}
    → Saves tables saved before → Reads before source read after → length after.held ≤ 5
few_after {tables} {saved} {before} {after} s r =
    few_held after.grammar after.held (may_after s r)

module _ {before : DecoderState} {source : List ℕ} {after : DecoderState} {read : ℕ} (r : Reads before source read after) where
  pub counted : r.passed + length after.held ≡ length before.held + read
  counted = let left = length-drop read source in omega (arith, r.counts, left, r.within)

  pub held_is : after.held ≡ drop (length before.held + read - length after.held) (before.held ++ take read source)
  held_is =
      let seen = before.held ++ take read source in
      let e : seen ++ drop read source ≡ before.held ++ source =
      append_assoc before.held (take read source) (drop read source) ∙ ap (λ (t : List ℕ). before.held ++ t) (take-append-drop read source) in
      let n : length seen ≡ length before.held + read =
      let a = length-append before.held (take read source) in let b = length-take read source in omega (arith, a, b, r.within) in
      let k : r.passed ≡ length before.held + read - length after.held = omega (arith, counted) in
      let low : r.passed ≤ length seen = omega (arith, counted, n) in
      let d : drop r.passed seen ++ drop read source ≡ after.held ++ drop read source =
      sym (drop-append-le r.passed seen (drop read source) low) ∙ ap (λ (t : List ℕ). drop r.passed t) e ∙ r.rest in
      sym (append_cancel_right (drop r.passed seen) after.held (drop read source) d) ∙ ap (λ (t : ℕ). drop t seen) k

-- the numbers after a task are those of the state after it
pub saves_after : {tables : IndexTables} {old new : SavedDecoder} {before after : DecoderState} {source : List ℕ} {read : ℕ} (k : ℕ)
    → Saves tables old before → Reads before source read after → length old.held ≡ 5
    → new.codec ≡ old.codec → new.mode ≡ grammar_mode after.grammar → new.count ≡ k → k ≡ length after.held
    → take k new.held ≡ drop (old.count + length (take read source) - k) (take old.count old.held ++ take read source)
    → Saves tables new after
saves_after {tables} {old} {new} {before} {after} {source} {read} k s r long codec mode count is held =
    let few = few_after s r in
    let n : length before.held ≡ old.count =
    let a = length-take old.count old.held in let b = ap length s.held in let c = s.few in omega (arith, a, b, c, long) in
    let t : length (take read source) ≡ read = let a = length-take read source in let b = r.within in omega (arith, a, b) in
    let m : length before.held + read - length after.held ≡ old.count + length (take read source) - k = omega (arith, n, t, is) in
    let e : after.held ≡ drop (length before.held + read - length after.held) (before.held ++ take read source) = held_is r in
    let f : drop (length before.held + read - length after.held) (before.held ++ take read source)
    ≡ drop (old.count + length (take read source) - k) (take old.count old.held ++ take read source) =
    ap₂ (λ (k : ℕ) (held : List ℕ). drop k (held ++ take read source)) m s.held in
    let h : take k new.held ≡ take new.count new.held = ap (λ (t : ℕ). take t new.held) (sym count) in
    record {
      grammar = ap₂ (λ (n m : ℕ). grammar_of tables n m) codec mode ∙ grammar_after s r;
      few = omega (arith, count, is, few);
      held = e ∙ f ∙ sym held ∙ h;
      may = may_after s r;
    }

-- numbers of a grammar, with bytes that its decoder may hold back
pub saves : {tables : IndexTables} {saved : SavedDecoder} (g : Grammar) (held : List ℕ) (state : DecoderState)
    → grammar_of tables saved.codec saved.mode ≡ Some g → saved.count ≤ 5 → held ≡ take saved.count saved.held
    → may_hold g held ≡ true → state ≡ state_of g held → Saves tables saved state
saves g held state e few is may same =
    record {
      grammar = e ∙ ap Some (ap (λ (s : DecoderState). s.grammar) (sym same));
      few = few;
      held = ap (λ (s : DecoderState). s.held) same ∙ is;
      may = ap (λ (s : DecoderState). may_hold s.grammar s.held) same ∙ may;
    }

-- numbers of a grammar, with bytes that none of its decoders may hold back
pub saves_none : {tables : IndexTables} {saved : SavedDecoder} (g : Grammar) (held : List ℕ)
    → grammar_of tables saved.codec saved.mode ≡ Some g → held ≡ take saved.count saved.held
    → may_hold g held ≡ false → SavesNone tables saved
saves_none g held e is may state s = grind (arith, e, is, may, s.grammar, s.held, s.may)

-- numbers of no grammar
pub no_grammar : {tables : IndexTables} {saved : SavedDecoder} → grammar_of tables saved.codec saved.mode ≡ None → SavesNone tables saved
no_grammar e state s = grind (arith, e, s.grammar)

-- too many held-back bytes
pub too_many : {tables : IndexTables} {saved : SavedDecoder} → (saved.count ≤ 5 → ⊥) → SavesNone tables saved
too_many h state s = h s.few

-- a decoder that was made of the held-back bytes, if any may hold them back
pub resumed : {D : Type 0} (state : D → DecoderState) (decoder : Option D) (tables : IndexTables) (saved : SavedDecoder) (g : Grammar) (held : List ℕ)
    → grammar_of tables saved.codec saved.mode ≡ Some g → saved.count ≤ 5 → held ≡ take saved.count saved.held
    → IfSome decoder (λ d. state d ≡ state_of g held) → IfNone decoder (may_hold g held ≡ false) → IfSome decoder (λ _. may_hold g held ≡ true)
    → MatchOption decoder (SavesNone tables saved) (λ d. Saves tables saved (state d))
resumed state None tables saved g held e few is s n t = saves_none g held e is n
resumed state (Some d) tables saved g held e few is s n t = saves g held (state d) e few is t s

-- a decoder of ISO-2022-JP that was made of the mode of a number
pub iso_resumed : {D : Type 0} (state : D → DecoderState) (decoder : Option D) (tables : IndexTables) (saved : SavedDecoder)
    (j : List ℕ) (mode : DecoderMode) (held : List ℕ)
    → saved.codec ≡ 6 → decoder_mode saved.mode ≡ Some mode → j ≡ tables.jis0208.now → saved.count ≤ 5 → held ≡ take saved.count saved.held
    → IfSome decoder (λ d. state d ≡ state_of (iso_2022_jp j mode) held) → IfNone decoder (may_hold (iso_2022_jp j mode) held ≡ false)
    → IfSome decoder (λ _. may_hold (iso_2022_jp j mode) held ≡ true)
    → MatchOption decoder (SavesNone tables saved) (λ d. Saves tables saved (state d))
iso_resumed state decoder tables saved j mode held six number same few is s n t =
    resumed state decoder tables saved (iso_2022_jp j mode) held (grind (arith, six, number, same)) few is s n t
