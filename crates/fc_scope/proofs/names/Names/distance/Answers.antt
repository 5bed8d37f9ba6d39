use Rattle.std.proofs.Common.{rules, arith, ◌≡◌, ◌+◌, Some, None, length, option_map, reverse, sym, ap, ◌∙◌}
use Rattle.std.proofs.lemmas.List.{length-reverse}
use Rattle.fc_model.specs.Resolution.{index_of}
use Rattle.fc_scope.proofs.Lookups.{index_here, index_past}
use Rattle.fc_scope.proofs.Ties.{index_below}
use Rattle.fc_scope.proofs.names.Names.distance.Goals as goal

pub overflow_add-result : goal.overflow_add-result
overflow_add-result c =
    let few = c.self.inside.few.items in
    let is : index_of (reverse few) c.args.word.now ≡ Some c.in-Some-distance_among.distance = search rules in
    omega (arith, index_below (reverse few) c.args.word.now c.in-Some-distance_among.distance is, length-reverse few, c.self.invariant.counted, c.len.ensures)

pub returns-in-Some : goal.returns-in-Some
returns-in-Some c =
    let is : index_of c.self.inside.many c.args.word.now ≡ Some c.in-Some.distance = search rules in
    sym (index_here c.self.inside.many (reverse c.self.inside.few.items) c.args.word.now c.in-Some.distance is) ∙ ap (λ ws. index_of ws c.args.word.now) c.self.view_is

pub returns-in-Some-distance_among : goal.returns-in-Some-distance_among
returns-in-Some-distance_among c =
    let few = c.self.inside.few.items in
    let none : index_of c.self.inside.many c.args.word.now ≡ None = search rules in
    let is : index_of (reverse few) c.args.word.now ≡ Some c.in-Some-distance_among.distance = search rules in
    ap (λ n. Some (c.in-Some-distance_among.distance + n)) c.len.ensures
    ∙ ap (option_map (λ i. i + length c.self.inside.many)) (sym is)
    ∙ sym (index_past c.self.inside.many (reverse few) c.args.word.now none) ∙ ap (λ ws. index_of ws c.args.word.now) c.self.view_is

pub returns-in-None-distance_among : goal.returns-in-None-distance_among
returns-in-None-distance_among c =
    let few = c.self.inside.few.items in
    let none : index_of c.self.inside.many c.args.word.now ≡ None = search rules in
    let is : index_of (reverse few) c.args.word.now ≡ None = search rules in
    ap (option_map (λ i. i + length c.self.inside.many)) (sym is)
    ∙ sym (index_past c.self.inside.many (reverse few) c.args.word.now none) ∙ ap (λ ws. index_of ws c.args.word.now) c.self.view_is
