use Rattle.std.proofs.Common.{◌∙◌, ap, refl}
use Rattle.clap.specs.Matches.{found_of}
use Rattle.fc_words.proofs.Getters.{text_read}
use Rattle.fc_words.proofs.reading.text_of.Goals as goal

pub returns : goal.returns
returns c = ap (λ s. s.now) c.unwrap_or.ensures ∙ text_read c.get_str.result _ (found_of c.args.matches.now) c.args.id.now c.get_str.ensures refl
