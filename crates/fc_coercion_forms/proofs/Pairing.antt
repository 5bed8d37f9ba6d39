-- Arguments of two types in pairs, where both come the last one first.
use Rattle.std.proofs.Common.{◌≡◌, ℕ, ◌+◌, ◌≤◌, List, [], ◌∷◌, ◌++◌, get_or, length, reverse, take, sym, ap, ◌∙◌, arith}
use Rattle.std.proofs.lemmas.List.{append-nil, append_assoc, take_all}
use Rattle.fc_syntax.specs.declared.ty.Role.{Role}
use Rattle.fc_syntax.specs.Tree.{Kind}
use Rattle.fc_model.specs.Coercing.{Ends, ends, paired}
use Rattle.fc_model.specs.Needs.{later_roles, next_role, role_within}
use Rattle.fc_model.specs.Nameless.{NTy}
use Rattle.fc_type_scope.specs.EndViews.{shown_all_ends_at}
use Rattle.fc_type_scope.specs.Scopes.{shown_all_at}
use Rattle.fc_type_scope.specs.declared.ends.Ends as code
use Rattle.fc_type_table.specs.Scopes.{shown_at}
use Rattle.fc_type_table.specs.declared.node.Node.{Node}
use Rattle.fc_type_table.specs.declared.node.TypeId.{TypeId}
use Rattle.fc_type_spines.proofs.Heads.{left-more, no_id}
use Rattle.fc_coercion_forms.proofs.Groups.{shown_all_ends-snoc}

abbrev turned : List Node → List Kind → List TypeId → List NTy
turned ns ks ids = reverse (shown_all_at ns ks ids)

pub pairs-start : (ns : List Node) (ks : List Kind) (r : Role) (rs : List Role) (lefts rights : List TypeId) (none : List code.Ends) → none ≡ [] → length lefts ≡ length rights
    → paired r rs (reverse (shown_all_at ns ks lefts)) (reverse (shown_all_at ns ks rights))
    ≡ shown_all_ends_at ns ks none ++ paired r rs (reverse (shown_all_at ns ks (take (length lefts) lefts))) (reverse (shown_all_at ns ks (take (length lefts) rights)))
unfolding shown_all_ends_at
pairs-start ns ks r rs lefts rights none h alike =
    let n = length lefts in
    ap (λ xs. paired r rs (turned ns ks xs) (turned ns ks rights)) (sym (take_all n lefts (omega arith)))
    ∙ ap (λ xs. paired r rs (turned ns ks (take n lefts)) (turned ns ks xs)) (sym (take_all n rights (omega arith)))
    ∙ ap (λ es. shown_all_ends_at ns ks es ++ paired r rs (turned ns ks (take n lefts)) (turned ns ks (take n rights))) (sym h)

pub pairs-turn : (ns : List Node) (ks : List Kind) (r o : Role) (rs later : List Role) (lefts rights : List TypeId) (group pushed : List code.Ends) (i j : ℕ) (whole : List Ends)
    → j ≡ i + 1 → j ≤ length lefts → length lefts ≡ length rights → o ≡ role_within r (next_role rs) → later ≡ later_roles rs
    → whole ≡ shown_all_ends_at ns ks group ++ paired r rs (reverse (shown_all_at ns ks (take j lefts))) (reverse (shown_all_at ns ks (take j rights)))
    → pushed ≡ group ++ record { role = o; left = get_or lefts i no_id; right = get_or rights i no_id } ∷ []
    → whole ≡ shown_all_ends_at ns ks pushed ++ paired r later (reverse (shown_all_at ns ks (take i lefts))) (reverse (shown_all_at ns ks (take i rights)))
pairs-turn ns ks r o rs later lefts rights group pushed i j whole is within alike at next so_far more =
    let before = shown_all_ends_at ns ks group in
    let s = shown_at ns ks (get_or lefts i no_id).0 in
    let t = shown_at ns ks (get_or rights i no_id).0 in
    let xs = turned ns ks (take i lefts) in
    let ys = turned ns ks (take i rights) in
    so_far
    ∙ ap (λ m. before ++ paired r rs (turned ns ks (take m lefts)) (turned ns ks (take m rights))) is
    ∙ ap (λ zs. before ++ paired r rs zs (turned ns ks (take (i + 1) rights))) (left-more ns ks lefts i (omega arith))
    ∙ ap (λ zs. before ++ paired r rs (s ∷ xs) zs) (left-more ns ks rights i (omega arith))
    ∙ ap (λ q. before ++ ends q s t ∷ paired r (later_roles rs) xs ys) (sym at)
    ∙ ap (λ qs. before ++ ends o s t ∷ paired r qs xs ys) (sym next)
    ∙ sym (append_assoc before (ends o s t ∷ []) (paired r later xs ys))
    ∙ ap (λ zs. zs ++ paired r later xs ys) (sym (shown_all_ends-snoc ns ks group pushed (record { role = o; left = get_or lefts i no_id; right = get_or rights i no_id }) more))

pub pairs-end : (ns : List Node) (ks : List Kind) (r : Role) (rs : List Role) (lefts rights : List TypeId) (group : List code.Ends) (i : ℕ) (whole : List Ends) → i ≤ 0
    → whole ≡ shown_all_ends_at ns ks group ++ paired r rs (reverse (shown_all_at ns ks (take i lefts))) (reverse (shown_all_at ns ks (take i rights)))
    → shown_all_ends_at ns ks group ≡ whole
unfolding shown_all_at
pairs-end ns ks r rs lefts rights group i whole none so_far =
    let zero : i ≡ 0 = omega arith in
    sym (so_far ∙ ap (λ m. shown_all_ends_at ns ks group ++ paired r rs (turned ns ks (take m lefts)) (turned ns ks (take m rights))) zero
    ∙ append-nil (shown_all_ends_at ns ks group))
