use Rattle.std.proofs.Common.{◌∙◌, codes, map, ap, List, ℕ, Bor}
use Rattle.clap.specs.Matches.{found_of}
use Rattle.fc_words.proofs.Getters.{no_texts, none_kept, none_read, some_read}
use Rattle.fc_words.proofs.reading.files_of.Goals as goal

pub returns-in_err-files : goal.returns-in_err-files
returns-in_err-files c = none_kept _ _ _ c.from_residual.ensures (none_read (found_of c.args.matches.now) (codes "files") c.in_err-files.ensures)

pub returns-in_err-file : goal.returns-in_err-file
returns-in_err-file c = none_kept _ _ _ c.from_residual-in_err-file.ensures
    (some_read c.in_ok-files.files (found_of c.args.matches.now) (codes "files") c.in_ok-files.ensures ∙ no_texts c.in_ok-files.files.now c.in_err-file.ensures.cases)

pub returns : goal.returns
returns c = some_read c.in_ok-files.files (found_of c.args.matches.now) (codes "files") c.in_ok-files.ensures
    ∙ ap (λ (vs : List (Bor (List ℕ))). map (λ (v : Bor (List ℕ)). v.now) vs) c.in_ok-file.ensures.cases.0
