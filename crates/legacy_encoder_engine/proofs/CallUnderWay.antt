-- The moves of an encoder make a call.
use Rattle.std.proofs.Common.{◌≡◌, ◌∙◌, ℕ, ◌+◌, ◌-◌, ◌≤◌, ◌<◌, List, [], ◌∷◌, ◌++◌, length, get_or, take, drop, map, refl, sym, ap, arith, append_assoc}
use Rattle.std.proofs.{Common.{append-nil, length-append, add-zero, inl, inr, Bool, true, false, IsTrue, not, ◌⊎◌}, Math.Nat.sub-zero}
use Rattle.std.proofs.{lemmas.Bool.cases_lt, lemmas.List.{map-append, take-append-drop}, lemmas.Grind.common_steps}
use Rattle.legacy_base.specs.{declared.results.EncoderResult.TheVariants.{InputEmpty, OutputFull, Unmappable}, declared.results.EncodeEvent.EncodeEvent}
use Rattle.legacy_base.specs.{declared.results.EncodeEvent.TheVariants.Byte, Encoders.{EncoderState, encoder_profile, code, encoded, end_bytes, is_pending}}
use Rattle.legacy_base.specs.{Encoders.{scalar_need, encoder_need, encoder_total_need}, Beginnings.BeginsWith}
use Rattle.legacy_base.specs.{EncodeEvents.{byte_count, code_length}, Profile.is_empty, EncoderCalls.EncoderCall}
use Rattle.legacy_base.specs.EncoderCalls.{EncoderLacksRoom, bytes_before}
use Rattle.legacy_text.specs.EncodingForm.{EncodingForm, code_units, unit_count, all_code_units, total_unit_count}
use Rattle.legacy_base.proofs.{Enough.answer-value, Beginnings.begins_later}
use Rattle.legacy_encoder_engine.specs.{declared.moves.EncoderMove.EncoderMove, Moves.{Moves, Finishes, move_bytes, move_report, unread_scalar, is_escape}}
use Rattle.legacy_encoder_engine.specs.{Moves.{wants_escape, state_for}, UnfinishedCall.{LowersEscaped, Underway}, ProfileSuffices.Serves}
use Rattle.legacy_encoder_engine.specs.declared.moves.EncoderMove.TheVariants as moves

-- ---- small laws

byte_count-after : (bytes : List ℕ) (rest : List EncodeEvent) → byte_count (map Byte bytes ++ rest) ≡ length bytes + byte_count rest
unfolding byte_count
byte_count-after [] rest = omega arith
byte_count-after (b ∷ bytes) rest = let h = byte_count-after bytes rest in omega arith

-- if no escape is needed, the state is unchanged
pub state_stays : (state : EncoderState) (c : ℕ) → wants_escape state c ≡ false → state_for state c ≡ state
state_stays state c e = grind arith

-- a list whose test says that it is empty has no items
no_bytes : (bytes : List ℕ) → not (is_empty bytes) ≡ false → bytes ≡ []
no_bytes bytes e = grind (arith, common_steps)

no_need : (state : EncoderState) (last : Bool) → (IsTrue last → end_bytes state ≡ []) → encoder_need state [] last ≡ 0
no_need state last p = grind arith

-- after a move that reads a scalar, an empty text that continues gives no bytes
no_more : (next : EncoderState) → Serves (encoder_profile next.codec) → (move : EncoderMove) (c : ℕ) → is_escape move ≡ false
    → byte_count (move_report move ++ encoded next (unread_scalar move c ++ []) false) ≡ 0
unfolding byte_count
no_more next serves move c e = grind (arith, serves.nothing)

-- ---- a call under way

pub underway_start : (before : EncoderState) (source : List ℕ) (last : Bool) (free : ℕ) → Underway before source last free before source []
underway_start before source last free = grind arith

module _ {before : EncoderState} {source : List ℕ} {last : Bool} {free : ℕ} where
  module _ {now : EncoderState} {left bytes : List ℕ} (under : Underway before source last free now left bytes)
      (serves : Serves (encoder_profile now.codec)) where
    whole : (more : List ℕ) (ended : Bool) → encoded before (source ++ more) ended ≡ map Byte bytes ++ encoded now (left ++ more) ended
    whole more ended = rw (under.cut, append_assoc, ← take-append-drop 1 left, append_assoc) (under.events (drop 1 left ++ more) ended)

    pub call_full : EncoderLacksRoom now left last (free - length bytes)
        → ((form : EncodingForm) → encoder_total_need form before (total_unit_count form source) ≤ free → ⊥)
        → EncoderCall before source last free now OutputFull left bytes
    call_full l never = grind (arith, whole, under.once, under.had_room, answer-value, serves.rises)

    -- an act that lacks room when the call begins still lacks it
    still : EncoderLacksRoom before source last free → EncoderLacksRoom now left last (free - length bytes)
    still l = let o = under.once l in rw (o.2, o.0, o.1, sub-zero) l

    module _ {c : ℕ} {rest : List ℕ} (at : left ≡ c ∷ rest) where
      units_at : (form : EncodingForm) (t : ℕ) → total_unit_count form left + t ≡ unit_count form c + (total_unit_count form rest + t)
      units_at form t = rw at (omega (arith, length-append (code_units form c) (all_code_units form rest)))

      -- the need of the remaining scalars is enough for the next one
      head_enough : (form : EncodingForm) → scalar_need now c + length bytes ≤ encoder_total_need form before (total_unit_count form source)
      head_enough form =
          grind (arith, serves.enough now.mode c form (total_unit_count form rest + 0), units_at form 0, add-zero (total_unit_count form source))

      pub call_full_scalar : free - length bytes < scalar_need now c → EncoderCall before source last free now OutputFull left bytes
      call_full_scalar h = call_full (rw at h) (λ form r. let e = head_enough form in let f = under.fits in omega arith)

      not_once : scalar_need now c ≤ free - length bytes → EncoderLacksRoom before source last free → ⊥
      not_once h l = let s = rw at at (still l) in omega arith

      module _ {next : EncoderState} {move : EncoderMove} (f : Moves now c next move) (room : scalar_need now c ≤ free - length bytes) where
        -- a move that reads the scalar leaves the state unchanged
        stays : is_escape move ≡ false → next ≡ now
        stays e = f.goes ∙ state_stays now c (sym f.asks ∙ e)

        -- the events of the text, with those of the move for the scalar
        moved : (more : List ℕ) (ended : Bool)
            → encoded before (under.taken ++ (c ∷ more)) ended
            ≡ map Byte (bytes ++ move_bytes move) ++ (move_report move ++ encoded next (unread_scalar move c ++ more) ended)
        moved more ended = rw (map-append, append_assoc, ← f.events more ended) (rw at at (under.events more ended))

        -- the scalar is read
        read_cut : source ≡ (under.taken ++ c ∷ []) ++ rest
        read_cut = under.cut ∙ ap (λ l. under.taken ++ l) at ∙ sym (append_assoc under.taken (c ∷ []) rest)

        before_it : is_escape move ≡ false → bytes_before before under.taken c ≡ length bytes
        before_it e =
            let own : code_length (code before c) ≡ length (move_bytes move) = rw (← under.same) (f.own e) in
            rw (moved [] false, byte_count-after, stays e, no_more now serves move c e, length-append) (omega arith)

        read_room : is_escape move ≡ false → (k : ℕ) → k < length (under.taken ++ c ∷ []) →
            bytes_before before (take k (under.taken ++ c ∷ [])) (get_or (under.taken ++ c ∷ []) k 0) + scalar_need before
            (get_or (under.taken ++ c ∷ []) k 0) ≤ free
        read_room e k h = grind (arith, common_steps, cases_lt k (length under.taken), under.had_room k, before_it e)

        read_low : is_escape move ≡ false → (form : EncodingForm) (t : ℕ)
            → encoder_total_need form next (total_unit_count form rest + t) + length (bytes ++ move_bytes move)
            ≤ encoder_total_need form before (total_unit_count form source + t)
        read_low e form t =
            grind (arith, f.own e, stays e, units_at form t, serves.low now.mode c form (total_unit_count form rest + t), length-append bytes (move_bytes move))

        -- after an escape the scalar follows, without another escape
        escape_lowers : is_escape move ≡ true → LowersEscaped before source next left (bytes ++ move_bytes move)
        escape_lowers e = elim under.lowers [
          | inr s ↦ let same : s.c ≡ c = cc in cc
          | inl s ↦
              let w : wants_escape now c ≡ true = sym f.asks ∙ e in
              let n = length-append bytes (move_bytes move) in
              let three : length (move_bytes move) ≡ 3 = grind arith in
              record {
                c = c;
                rest = rest;
                at = at;
                settled = ap (λ x. wants_escape x c) f.goes ∙ serves.settled now.mode c;
                low = λ form t.
                    let l = rw (units_at form t) at (s.low form t) in
                    let r = serves.escape_low now.mode c w form (total_unit_count form rest + t) in
                    rw f.goes (omega arith);
                enough = λ form.
                    let l = rw (units_at form 0, add-zero (total_unit_count form source)) at (s.low form 0) in
                    let r = serves.escape_enough now.mode c w form (total_unit_count form rest + 0) in
                    rw f.goes (omega arith);
              }
        ]

        pub underway_read : is_escape move ≡ false → move_report move ≡ [] → Underway before source last free next rest (bytes ++ move_bytes move)
        underway_read e r = grind (arith, read_cut, moved, read_room e, not_once room, read_low e, length-append, append_assoc)

        pub underway_escape : is_escape move ≡ true → Underway before source last free next left (bytes ++ move_bytes move)
        underway_escape e = grind (arith, moved, not_once, escape_lowers e, under.had_room, length-append)

      pub call_unmappable : {next : EncoderState} {r : ℕ} → Moves now c next (moves.Unmappable r) → scalar_need now c ≤ free - length bytes
          → EncoderCall before source last free next (Unmappable r) rest bytes
      call_unmappable f room = record {
        taken = under.taken ++ c ∷ [];
        cut = read_cut f room;
        codec = rw f.goes under.same;
        fits = under.fits;
        events = λ more ended h.
            rw (under.cut, at, append_assoc, ← f.events (rest ++ more) ended) (rw at at (under.events (rest ++ more) ended));
        input_empty = λ e. cc;
        output_full = λ e. cc;
        full_at_once = λ l. absurd (not_once room l);
        had_room = read_room f room refl;
        lowers = λ form more g. rw append-nil at (read_low f room refl form more);
        ends = λ form e. cc;
        suffices = λ form h x. cc;
        enough = λ form n k h e g x. cc;
      }

    -- all scalars are read
    module _ (none : left ≡ []) where
      end_low : (form : EncodingForm) (t : ℕ) → encoder_total_need form now t + length bytes ≤ encoder_total_need form before (total_unit_count form source + t)
      end_low form t = grind (arith, none)

      end_need_low : (form : EncodingForm) → length (end_bytes now) + length bytes ≤ encoder_total_need form before (total_unit_count form source)
      end_need_low form = let l = rw add-zero at (end_low form 0) in let e = serves.end now.mode form in omega arith

      pub call_done : (IsTrue last → is_pending now ≡ false) → EncoderCall before source last free now InputEmpty left bytes
      call_done p = grind (arith, whole, still, end_low, end_need_low, no_bytes (end_bytes now), no_need now last)

      module _ (is_last : last ≡ true) (pending : is_pending now ≡ true) where
        three : length (end_bytes now) ≡ 3
        three = serves.escapes now.mode pending

        pub call_full_end : free - length bytes < 3 → EncoderCall before source last free now OutputFull left bytes
        call_full_end h =
            call_full (rw (none, is_last, three) h)
            (λ form r. let e = end_need_low form in let n = three in let f = under.fits in omega arith)

        pub call_finish : {next : EncoderState} → Finishes now next → 3 ≤ free - length bytes
            → EncoderCall before source last free next InputEmpty left (bytes ++ 0x1B ∷ 0x28 ∷ 0x42 ∷ [])
        call_finish f room = record {
          taken = under.taken;
          cut = under.cut;
          codec = f.codec ∙ under.same;
          fits = let g = under.fits in omega (arith, length-append bytes (0x1B ∷ 0x28 ∷ 0x42 ∷ []));
          events = λ more ended h.
              let here = rw none at (whole more ended) in
              let is : ((more ≡ []) × IsTrue ended) ⊎ BeginsWith (encoded now more ended) (map Byte escape) = elim (h is_last) [
                | inl e ↦ inl e
                | inr g ↦ inr (begins_later (map Byte bytes) (map Byte escape) (encoded now more ended) (rw (here, append-nil, map-append) at g))
              ] in
              rw (none, map-append, append_assoc, ← f.events more ended is) here;
          input_empty = λ e. (none, λ l. f.done);
          output_full = λ e. cc;
          full_at_once = λ l. let s = rw (none, is_last, three) at (still l) in absurd (omega arith);
          had_room = under.had_room;
          lowers = λ form more g. let no : true ≡ false = sym is_last ∙ g in cc;
          ends = λ form e l. let r = end_need_low form in let n = three in omega (arith, length-append bytes (0x1B ∷ 0x28 ∷ 0x42 ∷ []));
          suffices = λ form h x. cc;
          enough = λ form n k h e g x. cc;
        }
          where
            escape : List ℕ
            escape = 0x1B ∷ 0x28 ∷ 0x42 ∷ []

-- ---- lemmas for the loop

-- the code units of a text are those of its first scalar and of the others
pub first_units : (form : EncodingForm) (left : List ℕ) (c : ℕ) → left ≡ c ∷ drop 1 left
    → total_unit_count form left ≡ unit_count form c + total_unit_count form (drop 1 left)
first_units form left c e = ap (total_unit_count form) e ∙ length-append (code_units form c) (all_code_units form (drop 1 left))
