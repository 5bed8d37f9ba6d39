use Rattle.std.proofs.Common.{◌≡◌, ◌∙◌, [], ◌∷◌, ◌++◌, length-append, map, ap, arith, rules, subst, sym}
use Rattle.std.proofs.lemmas.List.{length-map, map-append}
use Rattle.std.proofs.lemmas.List.Elements.{All-push}
use Rattle.fc_syntax.specs.View.{module_of}
use Rattle.fc_model.specs.Formed.{IsFormed}
use Rattle.fc_load.specs.Answers.{IsAmong}
use Rattle.fc_load.specs.Loading.{IsWithinReadLimits}
use Rattle.fc_load.proofs.NextFile.{all_read, among_at, reached_next, read_next, refused_next}
use Rattle.fc_load.proofs.loading.load.Goals as goal

pub returns-in-Refused-clause-answer : goal.returns-in-Refused-clause-answer
returns-in-Refused-clause-answer g c =
    refused_next (λ s. s.now) c.args.names.now c.loop-name.name-index _ _ _ _ _ _ c.loop-name-test.true c.loop-name.invariant.held c.loop-name.invariant.so_far c.in-Refused.ensures.answer

pub returns-in-ReadFault-clause-answer : goal.returns-in-ReadFault-clause-answer
returns-in-ReadFault-clause-answer g c = reached_next (λ s. s.now) c.args.names.now c.loop-name.name-index _ _ _ _ c.loop-name-test.true c.loop-name.invariant.so_far

pub loop-name-preserved : goal.loop-name-preserved
loop-name-preserved g c =
    let items : c.push.new.self.items ≡ c.loop-name.modules.items ++ c.in-Module.m ∷ [] = search rules in
    let modules : map module_of c.push.new.self.items ≡ map module_of c.loop-name.modules.items ++ module_of c.in-Module.m ∷ [] =
    ap (map module_of) items ∙ map-append module_of c.loop-name.modules.items (c.in-Module.m ∷ []) in
    record {
      held = c.in-Module.ensures.held ∙ c.loop-name.invariant.held;
      writes = c.in-Module.ensures.writes ∙ c.loop-name.invariant.writes;
      reads = omega (arith, c.in-Module.ensures.reads);
      so_far = read_next (λ s. s.now) c.args.names.now c.loop-name.name-index _ _ _ _ _ _ _ _ c.loop-name-test.true c.loop-name.invariant.held modules c.loop-name.invariant.so_far c.in-Module.ensures.answer;
      count = rw (modules, length-append, c.loop-name.invariant.count);
      formed = rw modules (All-push IsFormed _ _ c.loop-name.invariant.formed c.in-Module.ensures.formed);
      limits = rw modules (All-push IsWithinReadLimits _ _ c.loop-name.invariant.limits c.in-Module.ensures.limits);
    }

pub returns-clause-answer : goal.returns-clause-answer
returns-clause-answer g c = all_read (λ s. s.now) c.args.names.now c.loop-name.name-index _ _ _ c.loop-name-test.false c.loop-name.invariant.so_far

pub returns-in-Refused-clause-named : goal.returns-in-Refused-clause-named
returns-in-Refused-clause-named g c =
    subst (IsAmong (map (λ s. s.now) c.args.names.now)) (sym c.in-Refused.ensures.named) (among_at (λ s. s.now) c.args.names.now c.loop-name.name-index _ c.loop-name-test.true)

pub returns-in-ReadFault-clause-named : goal.returns-in-ReadFault-clause-named
returns-in-ReadFault-clause-named g c = among_at (λ s. s.now) c.args.names.now c.loop-name.name-index _ c.loop-name-test.true

pub returns-clause-named : goal.returns-clause-named
returns-clause-named g c = omega (arith, length-map c.args.names.now (λ s. s.now), c.loop-name.invariant.count)
