use Rattle.legacy_codecs.proofs.SoundEvents.{sound_events}
use Rattle.legacy_codecs.proofs.laws.events_are_sound.Goals as goal

pub returns : goal.returns
returns c = sound_events
