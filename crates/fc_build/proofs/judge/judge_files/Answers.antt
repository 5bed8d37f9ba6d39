use Rattle.std.proofs.Common.{◌≤◌, arith, length, map}
use Rattle.std.proofs.lemmas.List.{length-map}
use Rattle.fc_syntax.specs.Limits.{standard_limits}
use Rattle.fc_syntax.specs.View.{module_of}
use Rattle.fc_build.proofs.JudgeLemmas.{judged_all, judged_of}
use Rattle.fc_build.proofs.judge.judge_files.Goals as goal

pub returns-in-Modules-clause-answer : goal.returns-in-Modules-clause-answer
returns-in-Modules-clause-answer g c =
    let names = c.args.names.now in
    let few : length (map (λ s. s.now) names) ≤ standard_limits.modules = omega (arith, length-map names (λ s. s.now), c.requires) in
    judged_all (g.F.Files.held c.args.files.now) (map (λ s. s.now) names) (map module_of c.in-Modules.modules.items) c.judge_set.result few c.in-Modules.ensures.answer c.judge_set.ensures.judged

pub returns-in-Modules-clause-of_files : goal.returns-in-Modules-clause-of_files
returns-in-Modules-clause-of_files g c =
    let names = c.args.names.now in
    let few : length (map (λ s. s.now) names) ≤ standard_limits.modules = omega (arith, length-map names (λ s. s.now), c.requires) in
    judged_of (map (λ s. s.now) names) (map module_of c.in-Modules.modules.items) c.judge_set.result few c.in-Modules.ensures.named c.judge_set.ensures.judged
