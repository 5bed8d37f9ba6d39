use Rattle.std.proofs.Common.{◌∙◌, ◌-◌, ap, drop, length, subst, sym, take}
use Rattle.fc_build.specs.Delivering.{Delivers, step_in, steps_in}
use Rattle.fc_build.specs.Product.{all_files}
use Rattle.fc_build.specs.declared.deliver.Delivery.TheVariants as delivery
use Rattle.fc_build.proofs.Delivered.{done_then, front, no_files_behind, no_outputs, stopped_first}
use Rattle.fc_build.proofs.deliver.+deliver.Goals as goal

pub returns-in-Done-clause-delivers : goal.returns-in-Done-clause-delivers
returns-in-Done-clause-delivers g l c =
    let xs = c.args.steps.now in
    let is = front xs c.first-item.result c.in-len1-up.len_at_least c.first-item.is in
    subst (λ ss. Delivers c.deliver.result ss (g.F.Files.held c.args.files.now) (g.F.Files.held c.deliver.new.files) (g.F.Files.write_faults c.args.files.now) (g.F.Files.write_faults c.deliver.new.files) (g.O.Sink.taken c.args.out.now) (g.O.Sink.taken c.deliver.new.out) (g.O.Sink.faults c.args.out.now) (g.O.Sink.faults c.deliver.new.out)) (sym is)
    (done_then (step_in c.first-item.result) (steps_in (take (length xs - 1) (drop 1 xs))) (g.F.Files.held c.args.files.now) (g.F.Files.held c.deliver_step.new.files) (g.F.Files.held c.deliver.new.files) (g.F.Files.write_faults c.args.files.now) (g.F.Files.write_faults c.deliver_step.new.files) (g.F.Files.write_faults c.deliver.new.files) (g.O.Sink.taken c.args.out.now) (g.O.Sink.taken c.deliver_step.new.out) (g.O.Sink.taken c.deliver.new.out) (g.O.Sink.faults c.args.out.now) (g.O.Sink.faults c.deliver_step.new.out) (g.O.Sink.faults c.deliver.new.out)
    c.in-Done.ensures.delivers.0 c.in-Done.ensures.delivers.1 c.in-Done.ensures.writes_later c.in-Done.ensures.puts_later c.deliver.result c.deliver.ensures.delivers)

pub returns-in-Done-clause-nothing : goal.returns-in-Done-clause-nothing
returns-in-Done-clause-nothing g l c e =
    let xs = c.args.steps.now in
    let is = front xs c.first-item.result c.in-len1-up.len_at_least c.first-item.is in
    let none = no_files_behind (step_in c.first-item.result) (steps_in (take (length xs - 1) (drop 1 xs))) (ap all_files (sym is) ∙ e) in
    let here = c.in-Done.ensures.nothing (no_outputs c.first-item.result.files.items none.0) in
    let there = c.deliver.ensures.nothing none.1 in
    (there.0 ∙ here.0, there.1 ∙ here.1)

pub returns-in-WriteFault-clause-delivers : goal.returns-in-WriteFault-clause-delivers
returns-in-WriteFault-clause-delivers g l c =
    let xs = c.args.steps.now in
    let is = front xs c.first-item.result c.in-len1-up.len_at_least c.first-item.is in
    subst (λ ss. Delivers (delivery.WriteFault c.in-WriteFault.name) ss (g.F.Files.held c.args.files.now) (g.F.Files.held c.deliver_step.new.files) (g.F.Files.write_faults c.args.files.now) (g.F.Files.write_faults c.deliver_step.new.files) (g.O.Sink.taken c.args.out.now) (g.O.Sink.taken c.deliver_step.new.out) (g.O.Sink.faults c.args.out.now) (g.O.Sink.faults c.deliver_step.new.out)) (sym is)
    (stopped_first (delivery.WriteFault c.in-WriteFault.name) (step_in c.first-item.result) (steps_in (take (length xs - 1) (drop 1 xs))) (g.F.Files.held c.args.files.now) (g.F.Files.held c.deliver_step.new.files) (g.F.Files.write_faults c.args.files.now) (g.F.Files.write_faults c.deliver_step.new.files) (g.O.Sink.taken c.args.out.now) (g.O.Sink.taken c.deliver_step.new.out) (g.O.Sink.faults c.args.out.now) (g.O.Sink.faults c.deliver_step.new.out) (λ e. cc) c.in-WriteFault.ensures.delivers)

pub returns-in-WriteFault-clause-nothing : goal.returns-in-WriteFault-clause-nothing
returns-in-WriteFault-clause-nothing g l c e =
    let xs = c.args.steps.now in
    let is = front xs c.first-item.result c.in-len1-up.len_at_least c.first-item.is in
    let none = no_files_behind (step_in c.first-item.result) (steps_in (take (length xs - 1) (drop 1 xs))) (ap all_files (sym is) ∙ e) in
    c.in-WriteFault.ensures.nothing (no_outputs c.first-item.result.files.items none.0)

pub returns-in-PutFault-clause-delivers : goal.returns-in-PutFault-clause-delivers
returns-in-PutFault-clause-delivers g l c =
    let xs = c.args.steps.now in
    let is = front xs c.first-item.result c.in-len1-up.len_at_least c.first-item.is in
    subst (λ ss. Delivers delivery.PutFault ss (g.F.Files.held c.args.files.now) (g.F.Files.held c.deliver_step.new.files) (g.F.Files.write_faults c.args.files.now) (g.F.Files.write_faults c.deliver_step.new.files) (g.O.Sink.taken c.args.out.now) (g.O.Sink.taken c.deliver_step.new.out) (g.O.Sink.faults c.args.out.now) (g.O.Sink.faults c.deliver_step.new.out)) (sym is)
    (stopped_first delivery.PutFault (step_in c.first-item.result) (steps_in (take (length xs - 1) (drop 1 xs))) (g.F.Files.held c.args.files.now) (g.F.Files.held c.deliver_step.new.files) (g.F.Files.write_faults c.args.files.now) (g.F.Files.write_faults c.deliver_step.new.files) (g.O.Sink.taken c.args.out.now) (g.O.Sink.taken c.deliver_step.new.out) (g.O.Sink.faults c.args.out.now) (g.O.Sink.faults c.deliver_step.new.out) (λ e. cc) c.in-PutFault.ensures.delivers)

pub returns-in-PutFault-clause-nothing : goal.returns-in-PutFault-clause-nothing
returns-in-PutFault-clause-nothing g l c e =
    let xs = c.args.steps.now in
    let is = front xs c.first-item.result c.in-len1-up.len_at_least c.first-item.is in
    let none = no_files_behind (step_in c.first-item.result) (steps_in (take (length xs - 1) (drop 1 xs))) (ap all_files (sym is) ∙ e) in
    c.in-PutFault.ensures.nothing (no_outputs c.first-item.result.files.items none.0)

pub returns-in-Memory-clause-delivers : goal.returns-in-Memory-clause-delivers
returns-in-Memory-clause-delivers g l c =
    let xs = c.args.steps.now in
    let is = front xs c.first-item.result c.in-len1-up.len_at_least c.first-item.is in
    subst (λ ss. Delivers delivery.Memory ss (g.F.Files.held c.args.files.now) (g.F.Files.held c.deliver_step.new.files) (g.F.Files.write_faults c.args.files.now) (g.F.Files.write_faults c.deliver_step.new.files) (g.O.Sink.taken c.args.out.now) (g.O.Sink.taken c.deliver_step.new.out) (g.O.Sink.faults c.args.out.now) (g.O.Sink.faults c.deliver_step.new.out)) (sym is)
    (stopped_first delivery.Memory (step_in c.first-item.result) (steps_in (take (length xs - 1) (drop 1 xs))) (g.F.Files.held c.args.files.now) (g.F.Files.held c.deliver_step.new.files) (g.F.Files.write_faults c.args.files.now) (g.F.Files.write_faults c.deliver_step.new.files) (g.O.Sink.taken c.args.out.now) (g.O.Sink.taken c.deliver_step.new.out) (g.O.Sink.faults c.args.out.now) (g.O.Sink.faults c.deliver_step.new.out) (λ e. cc) c.in-Memory.ensures.delivers)

pub returns-in-Memory-clause-nothing : goal.returns-in-Memory-clause-nothing
returns-in-Memory-clause-nothing g l c e =
    let xs = c.args.steps.now in
    let is = front xs c.first-item.result c.in-len1-up.len_at_least c.first-item.is in
    let none = no_files_behind (step_in c.first-item.result) (steps_in (take (length xs - 1) (drop 1 xs))) (ap all_files (sym is) ∙ e) in
    c.in-Memory.ensures.nothing (no_outputs c.first-item.result.files.items none.0)
