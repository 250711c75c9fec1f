-- What `encode_text` writes.
use Rattle.std.specs.Prelude.{◌≡◌, ℕ, zero, suc, ◌-◌, ◌<◌, ◌≤◌, List, [], ◌∷◌, ◌++◌, length, drop, Bool, true, false, IsTrue, Option}
use Rattle.std.specs.Io.KnownBytes.{Appends, Consumes, IsAtEnd}
use Rattle.legacy_base.specs.declared.results.EncodeEvent.{EncodeEvent}
use Rattle.legacy_base.specs.Encoders.{EncoderState, encoded, end_bytes}
use Rattle.legacy_codecs.specs.References.{referenced_bytes}
use Rattle.legacy_streams.specs.Utf8Texts.{lossy_text, IsCutCharacter}

-- The events of the text and whatever follows, ended or not, are `events`, and then those of what is left. After the
-- last text nothing follows. The codec stays.
pub record KeepsEvents (last : Bool) (before : EncoderState) (text : List ℕ) (events : List EncodeEvent) (after : EncoderState) (left : List ℕ) : Type 0 where
  pub gives : (more : List ℕ) (ended : Bool) → (IsTrue last → (more ≡ []) × IsTrue ended) →
      encoded before (text ++ more) ended ≡ events ++ encoded after (left ++ more) ended
  pub codec : after.codec ≡ before.codec

-- ---- bytes that wait

-- `bytes` came after those that waited. All were written except for those that wait now, which are the last.
pub record Sends (waited bytes waiting : List ℕ) (old new : Option (List ℕ)) : Type 0 where
  pub sent : List ℕ
  pub parts : waited ++ bytes ≡ sent ++ waiting
  pub written : Appends old new sent

-- ---- a text

-- The text was encoded except for what is left. Its bytes and references were written after those that waited, except
-- for those that wait now.
pub record EncodesUpTo (before : EncoderState) (text : List ℕ) (last : Bool) (after : EncoderState) (left waited waiting : List ℕ)
    (old new : Option (List ℕ)) : Type 0 where
  pub events : List EncodeEvent
  pub goes_on : KeepsEvents last before text events after left
  pub sends : Sends waited (referenced_bytes events) waiting old new

-- The whole text was encoded; after the last text the encoder's end too.
pub record EncodesText (before : EncoderState) (text : List ℕ) (last : Bool) (after : EncoderState) (waited waiting : List ℕ)
    (old new : Option (List ℕ)) : Type 0 where
  pub done : EncodesUpTo before text last after [] waited waiting old new
  pub ended : IsTrue last → end_bytes after ≡ []

-- Some of the text was encoded. Of the bytes that waited and its bytes and references a front was written, which may end
-- inside a sequence.
abbrev pub EncodesFront : EncoderState → List ℕ → Bool → EncoderState → List ℕ → Option (List ℕ) → Option (List ℕ) → Type 0
EncodesFront before text last after waited old new = (left : List ℕ) × (unsent : List ℕ) × EncodesUpTo before text last after left waited unsent old new

-- ---- one piece of the input

-- the text of a number of bytes that the end of the input cuts: U+FFFD if there are any
abbrev pub end_scalars : ℕ → List ℕ
end_scalars zero = []
end_scalars (suc n) = 0xFFFD ∷ []

-- The text of a piece is these scalars, and then that of what is left of it and whatever bytes follow.
pub record DecodesTo (piece scalars left : List ℕ) : Type 0 where
  pub text : (more : List ℕ) → lossy_text (piece ++ more) ≡ scalars ++ lossy_text (left ++ more)

-- The text of the bytes was encoded except for that of what is left.
pub record EncodesBytes (before : EncoderState) (bytes left : List ℕ) (after : EncoderState) (waiting : List ℕ) (old new : Option (List ℕ)) : Type 0 where
  pub scalars : List ℕ
  pub decodes : DecodesTo bytes scalars left
  pub text : EncodesText before scalars false after [] waiting old new

-- The piece was encoded except for its last `held` bytes, which are a beginning of one character. Its bytes and
-- references were written, except for those that wait.
pub record EncodesPiece (before : EncoderState) (piece : List ℕ) (held : ℕ) (after : EncoderState) (waiting : List ℕ) (old new : Option (List ℕ)) : Type 0 where
  pub within : held ≤ length piece
  pub short : held < 4
  pub done : EncodesBytes before piece (drop (length piece - held) piece) after waiting old new
  pub cut : IsCutCharacter (drop (length piece - held) piece)

-- Some of the piece was encoded, and of its bytes and references a front was written, which may end inside a sequence.
pub record EncodesPieceFront (before : EncoderState) (piece : List ℕ) (after : EncoderState) (old new : Option (List ℕ)) : Type 0 where
  pub scalars : List ℕ
  pub rest : List ℕ
  pub decodes : DecodesTo piece scalars rest
  pub front : EncodesFront before scalars false after [] old new

-- ---- the whole input

-- The input was read to its end, and the bytes and references of all events of its text were written. The encoder has
-- nothing left to write, and its codec stays.
pub record EncodesAll (before after : EncoderState) (input_old input_new output_old output_new : Option (List ℕ)) : Type 0 where
  pub bytes : List ℕ
  pub read : Consumes input_old input_new bytes
  pub at_end : IsAtEnd input_new
  pub written : Appends output_old output_new (referenced_bytes (encoded before (lossy_text bytes) true))
  pub ended : end_bytes after ≡ []
  pub codec : after.codec ≡ before.codec

-- Some bytes of the input were read. All of them were encoded except for `held`, up to three at their end that begin a
-- character. Their bytes and references were written: the events are a beginning of all events, whatever else the input
-- contains, and the encoder continues after them.
pub record EncodesBeginning (before after : EncoderState) (input_old input_new output_old output_new : Option (List ℕ)) : Type 0 where
  pub bytes : List ℕ
  pub read : Consumes input_old input_new bytes
  pub held : List ℕ
  pub short : length held < 4
  pub cut : IsCutCharacter held
  pub scalars : List ℕ
  pub decodes : DecodesTo bytes scalars held
  pub events : List EncodeEvent
  pub goes_on : KeepsEvents false before scalars events after []
  pub written : Appends output_old output_new (referenced_bytes events)

-- Some bytes of the input were read, and a part of their text was encoded. The events of that part are a beginning of
-- all events, whatever else the input contains if it was not read to its end. Of their bytes and references a front was
-- written, which may end inside a sequence. All bytes before the last piece, of at most 4096 bytes, were encoded and
-- written as after a failed read, and `sent` after them.
pub record EncodesPartly (before after : EncoderState) (input_old input_new output_old output_new : Option (List ℕ)) : Type 0 where
  pub bytes : List ℕ
  pub read : Consumes input_old input_new bytes
  pub last : Bool
  pub at_end : IsTrue last → IsAtEnd input_new
  pub text : List ℕ
  pub is_text : (more : List ℕ) → (IsTrue last → more ≡ []) → (later : List ℕ) × (lossy_text (bytes ++ more) ≡ text ++ later) × (IsTrue last → later ≡ [])
  pub front : EncodesFront before text last after [] output_old output_new
  pub between : EncoderState
  pub input_between : Option (List ℕ)
  pub output_between : Option (List ℕ)
  pub earlier : EncodesBeginning before between input_old input_between output_old output_between
  pub piece : List ℕ
  pub near : length piece ≤ 4096
  pub parts : bytes ≡ earlier.bytes ++ piece
  pub sent : List ℕ
  pub written : Appends output_between output_new sent
