use Rattle.std.proofs.Common.{◌≡◌, ◌∙◌, None, subst, sym, rules}
use Rattle.fc_words.specs.Asking.{asked, texts}
use Rattle.fc_words.proofs.PlainWords.{plain_is_asked}
use Rattle.fc_build.specs.Delivering.{steps_in}
use Rattle.fc_build.specs.Preparing.{IsProduct}
use Rattle.fc_build.proofs.RunLemmas.{delivered_done, delivered_memory, delivered_reading, delivered_write_fault, product_has_no_fault, stop_complete}
use Rattle.fc_build.proofs.top.run.Goals as goal

pub returns-in-Err-clause-plain : goal.returns-in-Err-clause-plain
returns-in-Err-clause-plain g c plain is =
    let none : asked (texts c.args.words.now) ≡ None = search rules in
    plain_is_asked (texts c.args.words.now) plain none

pub returns-in-Err-clause-complete : goal.returns-in-Err-clause-complete
returns-in-Err-clause-complete g c a asks reads writes puts = stop_complete (texts c.args.words.now) _ _ _ c.in-Err.stop c.tell_stop.result c.tell_stop.ensures.status c.in-Err.ensures.answer a asks reads

pub returns-clause-done : goal.returns-clause-done
returns-clause-done g c is =
    delivered_done (texts c.args.words.now) _ _ _ (steps_in c.as_slice.result.now) (subst (λ ss. IsProduct (texts c.args.words.now) (g.F.Files.held c.args.files.now) (steps_in ss)) (sym c.as_slice.ensures.value) c.in-Ok.ensures.answer) c.in-Ok.ensures.held _ _ _ c.in-Ok.ensures.writes _ _ _ _
    c.deliver-delivery.result c.deliver-delivery.ensures.delivers c.deliver-delivery.ensures.nothing (sym c.tell_delivery.ensures.status ∙ is)

pub returns-clause-write_fault : goal.returns-clause-write_fault
returns-clause-write_fault g c is =
    delivered_write_fault (texts c.args.words.now) _ _ _ (steps_in c.as_slice.result.now) (subst (λ ss. IsProduct (texts c.args.words.now) (g.F.Files.held c.args.files.now) (steps_in ss)) (sym c.as_slice.ensures.value) c.in-Ok.ensures.answer) c.in-Ok.ensures.held _ _ _ c.in-Ok.ensures.writes _ _ _ _ _ _ _ _
    c.deliver-delivery.result c.deliver-delivery.ensures.delivers c.tell_delivery.ensures.line (sym c.tell_delivery.ensures.status ∙ is)

pub returns-clause-memory : goal.returns-clause-memory
returns-clause-memory g c is =
    delivered_memory (texts c.args.words.now) _ _ _ (steps_in c.as_slice.result.now) (subst (λ ss. IsProduct (texts c.args.words.now) (g.F.Files.held c.args.files.now) (steps_in ss)) (sym c.as_slice.ensures.value) c.in-Ok.ensures.answer) c.in-Ok.ensures.held _ _ _ c.in-Ok.ensures.writes _ _ _ _ _ _ _ _
    c.deliver-delivery.result c.deliver-delivery.ensures.delivers c.tell_delivery.ensures.line (sym c.tell_delivery.ensures.status ∙ is)

pub returns-clause-writes_nothing : goal.returns-clause-writes_nothing
returns-clause-writes_nothing g c a asks reading =
    delivered_reading (texts c.args.words.now) _ _ _ (steps_in c.as_slice.result.now) (subst (λ ss. IsProduct (texts c.args.words.now) (g.F.Files.held c.args.files.now) (steps_in ss)) (sym c.as_slice.ensures.value) c.in-Ok.ensures.answer) c.in-Ok.ensures.held _ _ _ c.in-Ok.ensures.writes
    (g.O.Sink.taken c.args.out.now) (g.O.Sink.taken c.deliver-delivery.new.out) (g.O.Sink.faults c.args.out.now) (g.O.Sink.faults c.deliver-delivery.new.out)
    c.deliver-delivery.ensures.nothing a asks reading

pub returns-clause-complete_refused : goal.returns-clause-complete_refused
returns-clause-complete_refused g c a asks reads = product_has_no_fault (texts c.args.words.now) (g.F.Files.held c.args.files.now) (steps_in c.in-Ok.steps.items) _ c.in-Ok.ensures.answer a asks
