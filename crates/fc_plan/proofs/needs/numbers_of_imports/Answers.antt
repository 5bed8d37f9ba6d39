use Rattle.std.proofs.Common.{arith, rules, ◌≡◌, ◌+◌, ◌∷◌, Some, None, drop, nat_eq, subst, sym}
use Rattle.indexmap.specs.IndexSet.{insert_key}
use Rattle.fc_model.proofs.Lists.{drop_item}
use Rattle.fc_plan.specs.Numbering.{at}
use Rattle.fc_plan.proofs.Needed.{IsReading, reading_more, reading_unknown}
use Rattle.fc_plan.proofs.needs.numbers_of_imports.Goals as goal

pub loop-import-preserved : goal.loop-import-preserved
loop-import-preserved c =
    let w = c.import-item.result in
    let number = at c.args.numbers.now in
    let rest = drop (c.loop-import.import-index + 1) c.args.imports.now in
    let here : drop c.loop-import.import-index c.args.imports.now ≡ w ∷ rest = drop_item c.args.imports.now c.loop-import.import-index w (omega arith) c.import-item.is in
    let reading = subst (λ ws. IsReading number c.args.imports.now ws c.loop-import.found.keys) here c.loop-import.invariant in
    let is : number w ≡ Some c.in-Some.number.now = search rules in
    let keys : c.insert.new.self.keys ≡ insert_key nat_eq c.loop-import.found.keys c.in-Some.number.now = search rules in
    subst (IsReading number c.args.imports.now rest) (sym keys) (reading_more number c.args.imports.now rest w c.loop-import.found.keys c.in-Some.number.now reading is)

pub returns-in-None-clause-known : goal.returns-in-None-clause-known
returns-in-None-clause-known c =
    let w = c.import-item.result in
    let number = at c.args.numbers.now in
    let rest = drop (c.loop-import.import-index + 1) c.args.imports.now in
    let here : drop c.loop-import.import-index c.args.imports.now ≡ w ∷ rest = drop_item c.args.imports.now c.loop-import.import-index w (omega arith) c.import-item.is in
    let reading = subst (λ ws. IsReading number c.args.imports.now ws c.loop-import.found.keys) here c.loop-import.invariant in
    let is : number w ≡ None = search rules in
    reading_unknown number c.args.imports.now rest w c.loop-import.found.keys reading is
