use Rattle.std.proofs.Common.{arith, subst}
use Rattle.fc_syntax.specs.View.{module_of}
use Rattle.fc_model.specs.FileForms.{ModuleFile}
use Rattle.fc_model.specs.Grammar.{AModule}
use Rattle.fc_model.specs.Texts.{BeginsWith}
use Rattle.fc_read_parts.specs.Reading.{Takes}
use Rattle.fc_read_parts.specs.Seen.{ahead, seen_all}
use Rattle.fc_reader.specs.Halting.{Halts, RefusesFile}
use Rattle.fc_reader.proofs.Ends.{refused, refused_behind, whole}
use Rattle.fc_reader.proofs.Steps.{err_is}
use Rattle.fc_reader.proofs.whole.read_whole.Goals as goal

pub returns-in_err-m-clause-fault : goal.returns-in_err-m-clause-fault
returns-in_err-m-clause-fault c =
    let h = c.in_err-m.field-0.0 in
    err_is (RefusesFile ModuleFile c.args.room (seen_all c.args.tokens.now)) _ h c.from_residual.ensures.1
    (refused ModuleFile c.args.room (seen_all c.args.tokens.now) h (subst (λ ts. Halts ModuleFile c.args.room (BeginsWith ModuleFile) AModule ts h) c.new-rest.ensures c.in_err-m.ensures.halt))

pub returns-then-left-gt0-clause-fault : goal.returns-then-left-gt0-clause-fault
returns-then-left-gt0-clause-fault c =
    let rest = ahead c.read_module_form.new.tokens in
    refused_behind ModuleFile c.args.room rest (subst (λ ts. Takes AModule ts (module_of c.in_ok-m.m) rest) c.new-rest.ensures c.in_ok-m.ensures.read) c.left-left.ensures c.if-left-gt0.true c.in_ok-m.ensures.within

pub returns-clause-found : goal.returns-clause-found
returns-clause-found c =
    let rest = ahead c.read_module_form.new.tokens in
    whole ModuleFile (seen_all c.args.tokens.now) rest (subst (λ ts. Takes AModule ts (module_of c.in_ok-m.m) rest) c.new-rest.ensures c.in_ok-m.ensures.read)
    (omega (arith, c.left-left.ensures, c.if-left-gt0.false))
