use Rattle.std.proofs.Common.{rules, ◌≡◌, ℕ, ◌+◌, List, Some, cond, bytes_eq, string_bytes, subst}
use Rattle.std.specs.HashMap.{get_by_text}
use Rattle.std.proofs.lemmas.Map.Text.{hash_map_updates_text}
use Rattle.fc_scope.proofs.Ties.{tied_more}
use Rattle.fc_scope.proofs.table.Table.add.Goals as goal

pub invariant_of-self-in-Ok : goal.invariant_of-self-in-Ok
invariant_of-self-in-Ok c =
    let old = get_by_text c.self.inside.last in
    let new = get_by_text c.insert.new.self in
    let key : string_bytes c.in_ok-key.key ≡ c.in_ok-word.word = search rules in
    let count : c.in-Some.count ≡ c.self.inside.count + 1 = search rules in
    let each = subst (λ (v : List ℕ). (w : List ℕ) → new w ≡ cond (bytes_eq v w) (Some c.in-Some.count) (old w)) key
    (hash_map_updates_text (string_bytes c.in_ok-key.key) c.self.inside.last c.insert.new.self _ c.in-Ok.ensures.updates) in
    tied_more c.self.inside.words.items c.push.new.self.items c.self.inside.count c.in-Some.count old new c.in_ok-word.word c.self.invariant c.in_ok-push.ensures.items count each
