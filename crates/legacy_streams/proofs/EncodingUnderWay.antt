-- The encoding of an input in UTF-8 under way.
use Rattle.std.proofs.Common.{◌≡◌, ◌≢◌, ◌⊎◌, ◌∙◌, ℕ, ◌+◌, ◌-◌, ◌≤◌, ◌<◌, List, [], ◌∷◌, ◌++◌, length, take, drop, take-append-drop, refl, sym, ap}
use Rattle.std.proofs.Common.{subst, arith, append_assoc, append-nil, length-append, length-drop, Bool, true, false, Option, None, IsUtf8, inl, ⊎_elim}
use Rattle.std.proofs.{Common.{drop-drop, take_all, zero-add}, lemmas.Str.{utf8_valid_len-IsValidUpTo, utf8_valid_len-IsUtf8, chars-nil}}
use Rattle.std.proofs.{KnownBytes.{Appends-nil, Appends-trans, Consumes-nil, Consumes-trans, Consumes-kept, Keeps-refl}}
use Rattle.std.proofs.lemmas.{Grind.flat_map-append, Bool.cases_lt}
use Rattle.std.proofs.{lemmas.List.{drop_at, length-take-le, length-take, drop-take, nil_from_length}, lemmas.List.Edits.take-paste, Math.Seq.paste}
use Rattle.std.specs.{Str.{chars, IsValidUpTo}, Str.Lossy.{utf8_valid_len, utf8_error_len}, Io.KnownBytes.{Appends, Consumes, IsAtEnd, Keeps}}
use Rattle.legacy_base.specs.{Encoders.{EncoderState, encoded}}
use Rattle.legacy_base.proofs.EncoderLaws.{end-encoded}
use Rattle.legacy_codecs.specs.{declared.results.CoderResult.CoderResult, declared.results.CoderResult.TheVariants.InputEmpty, References.event_bytes}
use Rattle.legacy_codecs.specs.References.{ReplacingEncoderCall}
use Rattle.legacy_codecs.proofs.WholeTexts.{wrote_last}
use Rattle.legacy_streams.specs.{Utf8Texts.{lossy_text, IsChunk, IsCutCharacter}, TextEncoding.{EncodesUpTo, EncodesText, EncodesFront, EncodesPiece}}
use Rattle.legacy_streams.specs.TextEncoding.{EncodesPieceFront, EncodesAll, EncodesBeginning, EncodesPartly, DecodesTo, EncodesBytes, Sends, end_scalars}
use Rattle.legacy_streams.proofs.Utf8Pieces.{cut_chunk, malformed_chunk, malformed_back, text_of_cut, text_of_none, utf8_cases}

-- ---- bytes that wait

pub sends_none : (waiting : List ℕ) (a : Option (List ℕ)) → Sends waiting [] waiting a a
sends_none waiting a = record { sent = []; parts = append-nil waiting; written = Appends-nil a }

-- a front of what waits is written
pub sends_front : {waiting : List ℕ} {a b : Option (List ℕ)} (count : ℕ) → Appends a b (take count waiting) → (unsent : List ℕ) × Sends waiting [] unsent a b
sends_front {waiting} count w =
    (drop count waiting, record { sent = take count waiting; parts = append-nil waiting ∙ sym (take-append-drop count waiting); written = w })

sends_join : {waited middle waiting xs ys : List ℕ} {a b c : Option (List ℕ)} → Sends waited xs middle a b → Sends middle ys waiting b c
    → Sends waited (xs ++ ys) waiting a c
sends_join {waited} {middle} {waiting} {xs} {ys} s t = grind (arith, append_assoc, Appends-trans)

sends_then : {waited middle waiting xs : List ℕ} {a b c : Option (List ℕ)} → Sends waited xs middle a b → Sends middle [] waiting b c
    → Sends waited xs waiting a c
sends_then {waited} {waiting = waiting} {xs = xs} {a = a} {c = c} s t = subst (λ l. Sends waited l waiting a c) (append-nil xs) (sends_join s t)

-- with nothing before and nothing left
sends_all : {bytes : List ℕ} {a b : Option (List ℕ)} → Sends [] bytes [] a b → Appends a b bytes
sends_all {a = a} {b = b} s = subst (Appends a b) (sym (s.parts ∙ append-nil s.sent)) s.written

-- ---- a text

pub text_start : (before : EncoderState) (text : List ℕ) (last : Bool) (waiting : List ℕ) (old : Option (List ℕ))
    → EncodesUpTo before text last before text waiting waiting old old
text_start before text last waiting old = record {
  events = [];
  goes_on = record { gives = λ more ended h. refl; codec = refl };
  sends = sends_none waiting old;
}

module _ {before now : EncoderState} {text rest waited waiting : List ℕ} {last : Bool} {old mid new : Option (List ℕ)}
    (u : EncodesUpTo before text last now rest waited waiting old mid) where
  -- what waits is written
  text_sent : {unsent : List ℕ} → Sends waiting [] unsent mid new → EncodesUpTo before text last now rest waited unsent old new
  text_sent w = record { events = u.events; goes_on = u.goes_on; sends = sends_then u.sends w }

  -- or a front of it
  pub text_front : (unsent : List ℕ) × Sends waiting [] unsent mid new → EncodesFront before text last now waited old new
  text_front w = (rest, w.0, text_sent w.1)

  -- room is made, and the bytes of a call wait
  module _ {room next : List ℕ} (w : Sends waiting [] room mid new) {free : ℕ} {after : EncoderState} {answer : CoderResult} {left bytes : List ℕ}
      {found : Bool} (c : ReplacingEncoderCall now rest last free after answer left bytes found) (e : next ≡ room ++ bytes) where
    pub text_step : EncodesUpTo before text last after left waited next old new
    text_step = record {
      events = u.events ++ c.out;
      goes_on = record {
        gives = λ more ended h. u.goes_on.gives more ended h ∙ rw (c.gives more ended (λ v. inl (h (wrote_last last answer v))), append_assoc) refl;
        codec = c.codec ∙ u.goes_on.codec;
      };
      sends = grind (arith, append_assoc, append-nil, flat_map-append event_bytes, Appends-trans);
    }

    pub text_end : answer ≡ InputEmpty → EncodesText before text last after waited next old new
    text_end is = let done = c.input_empty is in record { done = rw (← done.0) text_step; ended = done.1 }

-- a text that was encoded, and the next one
up_to_join : {before now after : EncoderState} {first second left waited middle waiting : List ℕ} {last : Bool} {old mid new : Option (List ℕ)}
    → EncodesUpTo before first false now [] waited middle old mid → EncodesUpTo now second last after left middle waiting mid new
    → EncodesUpTo before (first ++ second) last after left waited waiting old new
up_to_join {before = before} {after = after} {first} {second} {left} t k = record {
  events = t.events ++ k.events;
  goes_on = record {
    gives = λ more ended h.
        let one = t.goes_on.gives (second ++ more) ended (λ f. absurd (let no : false ≡ true = f in cc)) in
        rw (append_assoc first second more, one, k.goes_on.gives more ended h, append_assoc) refl;
    codec = k.goes_on.codec ∙ t.goes_on.codec;
  };
  sends = rw (flat_map-append event_bytes t.events k.events) (sends_join t.sends k.sends);
}

no_text_yet : (before : EncoderState) (old : Option (List ℕ)) → EncodesText before [] false before [] [] old old
no_text_yet before old = record { done = text_start before [] false [] old; ended = λ f. absurd (let no : false ≡ true = f in cc) }

module _ {before now : EncoderState} {first waited middle : List ℕ} {last : Bool} {old mid new : Option (List ℕ)}
    (t : EncodesText before first last now waited middle old mid) where
  pub text_written : Sends middle [] [] mid new → EncodesText before first last now waited [] old new
  text_written w = record { done = text_sent t.done w; ended = t.ended }

  pub text_unwritten : (unsent : List ℕ) × Sends middle [] unsent mid new → EncodesFront before first last now waited old new
  text_unwritten w = text_front t.done w

module _ {before now after : EncoderState} {first second waited middle : List ℕ} {last : Bool} {old mid new : Option (List ℕ)}
    (t : EncodesText before first false now waited middle old mid) where
  text_join : {waiting : List ℕ} → EncodesText now second last after middle waiting mid new
      → EncodesText before (first ++ second) last after waited waiting old new
  text_join k = record { done = up_to_join t.done k.done; ended = k.ended }

  front_join : EncodesFront now second last after middle mid new → EncodesFront before (first ++ second) last after waited old new
  front_join f = (f.0, f.1, up_to_join t.done f.2)

-- ---- bytes

bytes_start : (before : EncoderState) (bytes : List ℕ) (old : Option (List ℕ)) → EncodesBytes before bytes bytes before [] old old
bytes_start before bytes old = record { scalars = []; decodes = record { text = λ more. refl }; text = no_text_yet before old }

module _ {before now : EncoderState} {bytes middle waited : List ℕ} {old mid : Option (List ℕ)} (d : EncodesBytes before bytes middle now waited old mid) where
  -- more bytes come
  bytes_more : (more : List ℕ) → EncodesBytes before (bytes ++ more) (middle ++ more) now waited old mid
  bytes_more more = grind (arith, append_assoc)

  module _ {scalars left : List ℕ} (k : DecodesTo middle scalars left) where
    decodes_join : DecodesTo bytes (d.scalars ++ scalars) left
    decodes_join = grind (arith, append_assoc)

    -- one text more, or a front of it
    bytes_join : {after : EncoderState} {waiting : List ℕ} {new : Option (List ℕ)} → EncodesText now scalars false after waited waiting mid new
        → EncodesBytes before bytes left after waiting old new
    bytes_join t = record { scalars = d.scalars ++ scalars; decodes = decodes_join; text = text_join d.text t }

    bytes_front : {after : EncoderState} {new : Option (List ℕ)} → EncodesFront now scalars false after waited mid new
        → EncodesPieceFront before bytes after old new
    bytes_front f = record { scalars = d.scalars ++ scalars; rest = left; decodes = decodes_join; front = front_join d.text f }

-- ---- bytes that the end cuts

pub nothing_cut : (bs : List ℕ) → length bs ≡ 0 → IsCutCharacter bs
unfolding utf8_valid_len utf8_error_len
nothing_cut [] e = record { no_text = refl; not_malformed = refl }
nothing_cut (b ∷ bs) e = absurd (omega arith)

cut_valid : (b : ℕ) (bs : List ℕ) → IsCutCharacter (b ∷ bs) → IsValidUpTo (b ∷ bs) 0
cut_valid b bs cut = ⊎_elim
    (λ w. let whole = utf8_valid_len-IsUtf8 (b ∷ bs) w in let none = cut.no_text in absurd (omega arith))
    (λ v. subst (IsValidUpTo (b ∷ bs)) cut.no_text v)
    (utf8_cases (b ∷ bs))

-- their text
text_of_held : (held : List ℕ) → IsCutCharacter held → lossy_text held ≡ end_scalars (length held)
text_of_held [] cut = text_of_none
text_of_held (b ∷ bs) cut = text_of_cut (b ∷ bs) (cut_valid b bs cut) cut.not_malformed

-- ---- a piece

-- The piece is encoded up to a place.
pub record PieceUnderWay (before : EncoderState) (piece : List ℕ) (now : EncoderState) (passed : ℕ) (waiting : List ℕ)
    (old new : Option (List ℕ)) : Type 0 where
  pub within : passed ≤ length piece
  pub done : EncodesBytes before piece (drop passed piece) now waiting old new

pub piece_start : (before : EncoderState) (piece : List ℕ) {waiting : List ℕ} (old : Option (List ℕ)) → waiting ≡ []
    → PieceUnderWay before piece before 0 waiting old old
piece_start before piece old e = rw e record { within = omega arith; done = bytes_start before piece old }

-- the next chunk of what is left
module _ {before : EncoderState} {piece : List ℕ} {now : EncoderState} {passed : ℕ} {middle : List ℕ} {old mid : Option (List ℕ)}
    (u : PieceUnderWay before piece now passed middle old mid) {valid invalid : List ℕ} (k : IsChunk (drop passed piece) valid invalid) where
  at_invalid : drop (passed + length valid) piece ≡ invalid ++ k.later
  at_invalid = sym (drop-drop (length valid) passed piece) ∙ ap (drop (length valid)) k.parts ∙ drop_at valid (invalid ++ k.later) _ refl

  pub chunk_lengths : passed + (length valid + (length invalid + length k.later)) ≡ length piece
  chunk_lengths = omega (arith, u.within, ap length k.parts, length-append valid (invalid ++ k.later), length-append invalid k.later, length-drop passed piece)

  decodes_valid : DecodesTo (drop passed piece) (chars valid) (invalid ++ k.later)
  decodes_valid = record { text = cut_chunk k }

  -- encoding the text fails
  pub chunk_front : {after : EncoderState} {new : Option (List ℕ)} → EncodesFront now (chars valid) false after middle mid new
      → EncodesPieceFront before piece after old new
  chunk_front f = bytes_front u.done decodes_valid f

  alone : length k.later ≡ 0 → invalid ++ k.later ≡ invalid
  alone none = rw (nil_from_length k.later none) (append-nil invalid)

  -- the text is encoded, and nothing follows it, or what the end cuts
  pub chunk_end : {after : EncoderState} {waiting : List ℕ} {new : Option (List ℕ)} (held : ℕ)
      → EncodesText now (chars valid) false after middle waiting mid new
      → length invalid ≡ held → length k.later ≡ 0 → held < 4 → IsCutCharacter invalid → EncodesPiece before piece held after waiting old new
  chunk_end held t len none short cut = grind (arith, chunk_lengths, at_invalid, bytes_join u.done decodes_valid, alone)

  -- what is malformed becomes U+FFFD
  module _ (some : 0 < length invalid) where
    module _ (whole : passed + (length valid + length invalid) ≡ length piece) where
      pub held_nothing : length k.later ≡ 0
      held_nothing = let l = chunk_lengths in omega arith

      pub held_valid : IsValidUpTo invalid 0
      held_valid = subst (λ l. IsValidUpTo l 0) (alone held_nothing) (malformed_back k some)

      pub held_cut : utf8_error_len invalid ≡ None → IsCutCharacter invalid
      held_cut e = record { no_text = utf8_valid_len-IsValidUpTo invalid 0 held_valid; not_malformed = e }

    module _ (told : (passed + (length valid + length invalid) ≢ length piece) ⊎ (utf8_error_len invalid ≢ None)) where
      is_malformed : (0 < length k.later) ⊎ (utf8_error_len (invalid ++ k.later) ≢ None)
      is_malformed = grind (arith, chunk_lengths, alone, cases_lt)

      decodes_malformed : DecodesTo (drop passed piece) (chars valid ++ 0xFFFD ∷ []) k.later
      decodes_malformed = record { text = malformed_chunk k some is_malformed }

      module _ {between after : EncoderState} {half : List ℕ} {late new : Option (List ℕ)}
          (t : EncodesText now (chars valid) false between middle half mid late) where
        pub malformed_front : EncodesFront between (0xFFFD ∷ []) false after half late new → EncodesPieceFront before piece after old new
        malformed_front f = bytes_front u.done decodes_malformed (front_join t f)

        pub malformed_step : {waiting : List ℕ} → EncodesText between (0xFFFD ∷ []) false after half waiting late new
            → PieceUnderWay before piece after (passed + (length valid + length invalid)) waiting old new
        malformed_step f =
            let l = chunk_lengths in
            let place : passed + (length valid + length invalid) ≡ passed + length valid + length invalid = omega arith in
            let at : drop (passed + (length valid + length invalid)) piece ≡ k.later =
            ap (λ n. drop n piece) place ∙ sym (drop-drop (length invalid) (passed + length valid) piece) ∙ ap (drop (length invalid)) at_invalid
            ∙ drop_at invalid k.later _ refl in
            record { within = omega arith; done = rw at (bytes_join u.done decodes_malformed (text_join t f)) }

-- the piece is encoded
pub piece_end : {before : EncoderState} {piece : List ℕ} {now : EncoderState} {passed : ℕ} {waiting : List ℕ} {old new : Option (List ℕ)}
    → PieceUnderWay before piece now passed waiting old new → length (drop passed piece) ≡ 0 → EncodesPiece before piece 0 now waiting old new
piece_end {piece = piece} u none =
    let end = length piece - 0 in
    grind (arith, length-drop, nil_from_length, nothing_cut (drop end piece) (omega (arith, length-drop end piece)))

-- what waits is written
pub piece_written : {before : EncoderState} {piece : List ℕ} {held : ℕ} {after : EncoderState} {waiting : List ℕ} {old mid new : Option (List ℕ)}
    → EncodesPiece before piece held after waiting old mid → Sends waiting [] [] mid new → EncodesPiece before piece held after [] old new
piece_written p w = grind (arith, text_written)

-- or a front of it
pub piece_unwritten : {before : EncoderState} {piece : List ℕ} {held : ℕ} {after : EncoderState} {waiting : List ℕ} {old mid new : Option (List ℕ)}
    → EncodesPiece before piece held after waiting old mid → (unsent : List ℕ) × Sends waiting [] unsent mid new → EncodesPieceFront before piece after old new
piece_unwritten p w = record { scalars = p.done.scalars; rest = _; decodes = p.done.decodes; front = text_unwritten p.done.text w }

-- ---- the input

-- The bytes that were read were encoded, except for those that are held back, and their bytes and references were
-- written.
pub record InputUnderWay (before now : EncoderState) (held : List ℕ) (left_old left old new : Option (List ℕ)) : Type 0 where
  pub bytes : List ℕ
  pub read : Consumes left_old left bytes
  pub short : length held < 4
  pub done : EncodesBytes before bytes held now [] old new
  pub cut : IsCutCharacter held

pub input_start : (before : EncoderState) (left old : Option (List ℕ)) → InputUnderWay before before [] left left old old
input_start before left old =
    record { bytes = []; read = Consumes-nil left; short = omega arith; done = bytes_start before [] old; cut = nothing_cut [] refl }

module _ {before now : EncoderState} {held : List ℕ} {left_old left old mid : Option (List ℕ)} (u : InputUnderWay before now held left_old left old mid) where
  -- what holds if no more can be read
  pub input_beginning : {left_new : Option (List ℕ)} → Keeps left left_new → EncodesBeginning before now left_old left_new old mid
  input_beginning k = record {
    bytes = u.bytes;
    read = Consumes-kept _ _ _ _ u.read k;
    held = held;
    short = u.short;
    cut = u.cut;
    scalars = u.done.scalars;
    decodes = u.done.decodes;
    events = u.done.text.done.events;
    goes_on = u.done.text.done.goes_on;
    written = sends_all u.done.text.done.sends;
  }

  module _ {left_new : Option (List ℕ)} (piece : List ℕ) (r : Consumes left left_new piece) where
    -- a piece more
    pub input_step : (rest : List ℕ) {count : ℕ} {after : EncoderState} {new : Option (List ℕ)} → (p : EncodesPiece now (held ++ piece) count after [] mid new)
        → rest ≡ drop (length (held ++ piece) - count) (held ++ piece) → InputUnderWay before after rest left_old left_new old new
    input_step rest {count} p e =
        let within = p.within in
        let len : length rest ≡ count = ap length e ∙ (let k = length-drop (length (held ++ piece) - count) (held ++ piece) in omega arith) in
        record {
          bytes = u.bytes ++ piece;
          read = Consumes-trans _ _ _ _ _ u.read r;
          short = let s = p.short in omega arith;
          done = rw e (bytes_join (bytes_more u.done piece) p.done.decodes p.done.text);
          cut = subst IsCutCharacter (sym e) p.cut;
        }

    -- what holds if writing a piece fails
    pub input_partly : {after : EncoderState} {new : Option (List ℕ)} → length piece ≤ 4096 → EncodesPieceFront now (held ++ piece) after mid new
        → EncodesPartly before after left_old left_new old new
    unfolding input_beginning
    input_partly near p =
        let front = bytes_front (bytes_more u.done piece) p.decodes p.front in
        record {
          bytes = u.bytes ++ piece;
          read = Consumes-trans _ _ _ _ _ u.read r;
          last = false;
          at_end = λ f. absurd (let no : false ≡ true = f in cc);
          text = front.scalars;
          is_text = λ more h. (lossy_text (front.rest ++ more), front.decodes.text more, λ f. absurd (let no : false ≡ true = f in cc));
          front = front.front;
          between = now;
          input_between = left;
          output_between = mid;
          earlier = input_beginning (Keeps-refl left);
          piece = piece;
          near = near;
          parts = refl;
          sent = p.front.2.sends.sent;
          written = p.front.2.sends.written;
        }

  -- the text of all that was read
  whole_text : lossy_text u.bytes ≡ u.done.scalars ++ end_scalars (length held)
  whole_text = grind (arith, append-nil, u.done.decodes.text [], text_of_held held u.cut)

  module _ (left_new : Option (List ℕ)) (r : Consumes left left_new []) where
    read_all : Consumes left_old left_new u.bytes
    read_all = subst (λ l. Consumes left_old left_new l) (append-nil u.bytes) (Consumes-trans _ _ _ _ _ u.read r)

    -- the end is written
    pub input_end : IsAtEnd left_new → (after : EncoderState) (new : Option (List ℕ)) → EncodesText now (end_scalars (length held)) true after [] [] mid new
        → EncodesAll before after left_old left_new old new
    input_end at_end after new t =
        let whole = text_join u.done.text t in
        let ended = t.ended refl in
        let all : encoded before (lossy_text u.bytes) true ≡ whole.done.events =
        grind (arith, append-nil, whole_text, whole.done.goes_on.gives [] true, end-encoded after) in
        record {
          bytes = u.bytes;
          read = read_all;
          at_end = at_end;
          written = rw all (sends_all whole.done.sends);
          ended = ended;
          codec = whole.done.goes_on.codec;
        }

    -- what holds if writing the end fails
    pub input_end_partly : IsAtEnd left_new → (after : EncoderState) (new : Option (List ℕ))
        → EncodesFront now (end_scalars (length held)) true after [] mid new → EncodesPartly before after left_old left_new old new
    unfolding input_beginning
    input_end_partly at_end after new f = record {
      bytes = u.bytes;
      read = read_all;
      last = true;
      at_end = λ _. at_end;
      text = u.done.scalars ++ end_scalars (length held);
      is_text = λ more none. ([], rw (none refl, append-nil, append-nil) whole_text, λ _. refl);
      front = front_join u.done.text f;
      between = now;
      input_between = left;
      output_between = mid;
      earlier = input_beginning (Keeps-refl left);
      piece = [];
      near = omega arith;
      parts = sym (append-nil u.bytes);
      sent = f.2.sends.sent;
      written = f.2.sends.written;
    }

-- no character begins with these bytes, so no text does
pub no_text : (bs : List ℕ) → IsValidUpTo bs 0 → IsUtf8 bs → ⊥
no_text bs valid u = valid.longest (length bs) valid.short (subst IsUtf8 (sym (take_all (length bs) bs (omega arith))) u)

-- a fact about the bytes after the longest text is one about all bytes if that text is empty
pub told_of_all : (bs : List ℕ) (n : ℕ) (o : Option ℕ) → IsValidUpTo bs 0 → n ≡ utf8_valid_len bs → o ≡ utf8_error_len (drop n bs) → o ≡ utf8_error_len bs
told_of_all bs n o valid e t = t ∙ ap (λ k. utf8_error_len (drop k bs)) (e ∙ utf8_valid_len-IsValidUpTo bs 0 valid)

-- the text that the end leaves
pub end_of_none : (n : ℕ) → n ≡ 0 → chars [] ≡ end_scalars n
end_of_none n e = rw e chars-nil

pub end_of_some : (n : ℕ) → n ≢ 0 → chars (0xEF ∷ 0xBF ∷ 0xBD ∷ []) ≡ end_scalars n
unfolding chars
end_of_some n h = grind arith

-- ---- the buffer

pub kept_end : (l new : List ℕ) (filled left : ℕ) → left ≤ filled → filled ≤ length l → new ≡ paste l 0 (drop (filled - left) l) (filled - (filled - left)) →
    take left new ≡ drop (filled - left) (take filled l)
kept_end l new filled left within long e =
    let k = filled - left in
    let n : filled - k ≡ left = omega arith in
    let is : filled ≡ k + left = omega arith in
    let kept : drop k (take filled l) ≡ take left (drop k l) = ap (λ j. drop k (take j l)) is ∙ drop-take k left l in
    let room : left ≤ length (drop k l) = omega (arith, length-drop k l) in
    rw (e, kept, n) (ap (λ j. take j (paste l 0 (drop k l) left)) (sym (zero-add left)) ∙ take-paste l 0 (drop k l) left (omega arith) room)

-- a piece fits into the buffer
pub piece_near : (held count : ℕ) (old new piece : List ℕ) → take (held + count) new ≡ take held old ++ piece → held + count ≤ length new
    → length new ≤ 4096 → length piece ≤ 4096
piece_near held count old new piece e within long =
    omega (arith, ap length e, length-append (take held old) piece, length-take-le (held + count) new within)

-- a read of no bytes is the end, after the bytes that are held back
pub read_end : (held count : ℕ) (old new : List ℕ) (left left_new : Option (List ℕ)) → held < 4 → length old ≡ 4096 → count ≡ 0 →
    (piece : List ℕ) × Consumes left left_new piece × (take (held + count) new ≡ take held old ++ piece) × (count ≡ 0 → IsAtEnd left_new)
    → Consumes left left_new [] × IsAtEnd left_new × (length (take held old) ≡ held)
read_end held count old new left left_new short long z (piece, r, e, at_end) =
    let front = length-take-le held old (omega (arith, short, long)) in
    let total = ap length e ∙ length-append (take held old) piece in
    let none : piece ≡ [] = nil_from_length piece (omega (arith, front, total, length-take (held + count) new)) in
    (rw none at r, at_end z, front)
