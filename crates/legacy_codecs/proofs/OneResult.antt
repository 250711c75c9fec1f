-- The handlers of the Standard's decoders and encoders give one list of events for an input.
use Rattle.std.proofs.Common.{◌≡◌, ℕ, List, arith}
use Rattle.legacy_base.specs.declared.results.DecodeEvent.{DecodeEvent}
use Rattle.legacy_base.specs.declared.results.EncodeEvent.{EncodeEvent}
use Rattle.legacy_base.specs.Encoders.{Codec, single_byte, user_defined, big5, euc_kr, shift_jis, euc_jp, gb18030, gbk, iso_2022_jp}
use Rattle.legacy_standard.specs.{TextQueue.{TextItem, TextHandled, Encodes}, EncoderLaw.HandlerEncodes}
use Rattle.legacy_standard.specs.{Queue.{Item, Handled}, Processing.{Malformed, Processes}, DecoderLaw.{Decoder, HandlerDecodes}}
use Rattle.legacy_standard.specs.DecoderLaw as decoders

-- two results that a handler gives within enough turns are the same
encodes_one : {State : Type 0} (handler : State → TextItem → TextHandled State) (state : State) (queue : List ℕ) {one other : List EncodeEvent} →
    Encodes handler state queue one → Encodes handler state queue other → one ≡ other
encodes_one handler state queue (m, p) (n, q) = let a = p n in let b = q m in grind arith

pub one_encoded : (codec : Codec) (text : List ℕ) {one other : List EncodeEvent} →
    HandlerEncodes codec text one → HandlerEncodes codec text other → one ≡ other
one_encoded (single_byte table) text = encodes_one _ _ text
one_encoded user_defined text = encodes_one _ _ text
one_encoded (big5 index) text = encodes_one _ _ text
one_encoded (euc_kr index) text = encodes_one _ _ text
one_encoded (shift_jis jis0208) text = encodes_one _ _ text
one_encoded (euc_jp jis0208 jis0212) text = encodes_one _ _ text
one_encoded (gb18030 index ranges pua) text = encodes_one _ _ text
one_encoded (gbk index ranges pua) text = encodes_one _ _ text
one_encoded (iso_2022_jp jis0208 katakana_index) text = encodes_one _ _ text

-- the same for decoders
processes_one : {State : Type 0} (handler : State → Item → Handled State) (malformed : Malformed State) (initial : State) (queue : List ℕ)
    {one other : List DecodeEvent} → Processes handler malformed initial queue one → Processes handler malformed initial queue other → one ≡ other
processes_one handler malformed initial queue (m, p) (n, q) = let a = p n in let b = q m in grind arith

pub one_decoded : (decoder : Decoder) (bytes : List ℕ) {one other : List DecodeEvent} →
    HandlerDecodes decoder bytes one → HandlerDecodes decoder bytes other → one ≡ other
one_decoded (decoders.single_byte table) bytes = processes_one _ _ _ bytes
one_decoded decoders.user_defined bytes = processes_one _ _ _ bytes
one_decoded decoders.replacement bytes = processes_one _ _ _ bytes
one_decoded (decoders.utf16 is_utf16be) bytes = processes_one _ _ _ bytes
one_decoded (decoders.euc_kr index) bytes = processes_one _ _ _ bytes
one_decoded (decoders.big5 index) bytes = processes_one _ _ _ bytes
one_decoded (decoders.shift_jis jis0208) bytes = processes_one _ _ _ bytes
one_decoded (decoders.euc_jp jis0208 jis0212) bytes = processes_one _ _ _ bytes
one_decoded (decoders.gb18030 index ranges) bytes = processes_one _ _ _ bytes
one_decoded (decoders.iso_2022_jp jis0208) bytes = processes_one _ _ _ bytes
