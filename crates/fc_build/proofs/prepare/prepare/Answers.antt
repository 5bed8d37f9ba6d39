use Rattle.std.proofs.Common.{rules, ◌≡◌, Some, IfSome}
use Rattle.fc_words.specs.Asking.{asked, asked_of, order_of, texts}
use Rattle.fc_build.specs.Acceptance.{Accepted, IsSetOf}
use Rattle.fc_build.specs.Delivering.{steps_in}
use Rattle.fc_build.specs.Judging.{IsReadySet, modules_in}
use Rattle.fc_build.specs.Preparing.{files_in}
use Rattle.fc_build.specs.SetSteps.{AreStepsOf}
use Rattle.fc_build.proofs.Products.{steps_are}
use Rattle.fc_build.proofs.prepare.prepare.Goals as goal

pub returns-in-Ok-steps_for-clause-answer : goal.returns-in-Ok-steps_for-clause-answer
returns-in-Ok-steps_for-clause-answer g c =
    let set = c.in-Accepted.set in
    let request = asked_of c.in-Ok.request in
    let asks : asked (texts c.args.words.now) ≡ Some request = search rules in
    let accepted : IfSome (g.F.Files.held c.args.files.now) (λ m. Accepted (files_in request) m (modules_in set)) = search rules in
    let ready : IsReadySet set = search rules in
    let of_files : IsSetOf (files_in request) (modules_in set) = search rules in
    let made : AreStepsOf (order_of c.in-Ok.request.command) set (steps_in c.in-Ok-steps_for.steps.items) = search rules in
    record {
      request = request;
      set = modules_in set;
      input = record { asks = asks; accepted = accepted; of_files = of_files; ready = ready.ready };
      are = steps_are (order_of c.in-Ok.request.command) set (steps_in c.in-Ok-steps_for.steps.items) ready made;
    }
