use Rattle.std.proofs.Common.{◌≡◌, ◌∙◌, ap, not, sym, if◌then◌else◌, ◌++◌, ◌∷◌, [], List, map}
use Rattle.std.proofs.lemmas.List.{at_drop_all}
use Rattle.fc_syntax.specs.declared.ty.Name.{Name}
use Rattle.fc_free.specs.Free.{is_among}
use Rattle.fc_free.proofs.Gathered.{gathered, gathered_once, gathered_step, known_before, with_name}
use Rattle.fc_free.proofs.once.once_each.Goals as goal
use Rattle.fc_free.proofs.once.once_each.Goals.{then-branch+in_ok-copy+in_ok-push, else-branch}

pub loop-name-preserved : goal.loop-name-preserved
loop-name-preserved c =
    let all : List Name = c.loop-name.all in
    let n : Name = c.name-item.result.now in
    let known : is_among n all ≡ not c.in_ok-insert.field-0 =
    known_before c.key_of.result c.loop-name.seen.keys n all c.in_ok-insert.field-0 c.loop-name.invariant.0 c.key_of.ensures c.in_ok-insert.ensures.added in
    let more : c.if-branch.all ≡ with_name all n = elim c.if-branch.branch [
      | then-branch+in_ok-copy+in_ok-push w ↦
          w.all-is ∙ w.in_ok-push.ensures.ok ∙ ap (λ m. all ++ m ∷ []) w.in_ok-copy.ensures ∙ sym (ap (λ b. if b then all else all ++ n ∷ []) (known ∙ ap not w.if-branch.true))
      | else-branch w ↦ w.all-is ∙ sym (ap (λ b. if b then all else all ++ n ∷ []) (known ∙ ap not w.if-branch.false))
    ] in
    gathered_step c.args.names.now c.loop-name.name-index c.name-item.result c.key_of.result c.loop-name.seen.keys c.insert.new.self.keys all c.if-branch.all (gathered [] (map (λ n. n.now) c.args.names.now))
    c.loop-name.invariant c.loop-name-test.true c.name-item.is c.key_of.ensures c.in_ok-insert.ensures.keys more

pub returns : goal.returns
returns c =
    sym (at_drop_all (λ xs. gathered c.loop-name.all (map (λ n. n.now) xs)) c.args.names.now c.loop-name.name-index c.loop-name-test.false)
    ∙ c.loop-name.invariant.1 ∙ gathered_once (map (λ n. n.now) c.args.names.now)
