use Rattle.std.proofs.Common.{◌≡◌, Some, map, slice_get, subst}
use Rattle.fc_build.proofs.JudgeLemmas.{named_at, too_many_as, too_many_of}
use Rattle.fc_build.proofs.judge.judge.Goals as goal

pub returns-in-Some-clause-answer : goal.returns-in-Some-clause-answer
returns-in-Some-clause-answer g c =
    let files = map (λ s. s.now) c.args.names.now in
    let found = c.in-Some.ensures.lookup in
    let at = subst (λ l. slice_get files l.modules ≡ Some c.in-Some.name.now.now) c.standard.ensures (named_at (λ s. s.now) c.args.names.now _ _ found.3.0 found.1) in
    too_many_as (g.F.Files.held c.args.files.now) files c.in-Some.name.now.now c.of_file.result c.refused.result at c.of_file.ensures c.refused.ensures.told c.refused.ensures.untold

pub returns-in-Some-clause-of_files : goal.returns-in-Some-clause-of_files
returns-in-Some-clause-of_files g c =
    let files = map (λ s. s.now) c.args.names.now in
    let found = c.in-Some.ensures.lookup in
    let at = subst (λ l. slice_get files l.modules ≡ Some c.in-Some.name.now.now) c.standard.ensures (named_at (λ s. s.now) c.args.names.now _ _ found.3.0 found.1) in
    too_many_of files c.in-Some.name.now.now c.of_file.result c.refused.result at c.of_file.ensures c.refused.ensures.told c.refused.ensures.untold
