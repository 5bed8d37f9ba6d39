-- Families that are applied in full, by their heads.
use Rattle.std.proofs.Common.{◌≡◌, ℕ, suc, ◌+◌, Bool, List, [], ◌∷◌, ◌++◌, length, reverse, Option, refl, sym, ap, ◌∙◌, arith}
use Rattle.std.specs.Option.{option_and_then}
use Rattle.std.proofs.lemmas.List.{length-append, length-reverse}
use Rattle.fc_syntax.specs.Tree.{Kind}
use Rattle.fc_model.specs.Calling.{declared_name, type_arguments, type_head}
use Rattle.fc_model.specs.Kinding.{Modules, is_family_applied, is_family_of, type_decl}
use Rattle.fc_model.specs.Nameless.{NTy, NTVar, NTCon, NTInt, NTApp, NTFun, NTForall, NTCoForall, NDecl}
use Rattle.fc_type_scope.proofs.Numbers.{length-shown_all}
use Rattle.fc_type_scope.specs.Scopes.{shown_all_at}
use Rattle.fc_type_table.specs.TypeTables.{declaration_in}
use Rattle.fc_type_table.specs.declared.node.Node.{Node}
use Rattle.fc_type_table.specs.declared.node.TypeId.{TypeId}

by_head : (ms : Modules) (t : NTy) (n : ℕ)
    → is_family_applied ms n t ≡ is_family_of (option_and_then (declaration_in ms) (declared_name (type_head t))) (n + length (type_arguments t))
by_head ms (NTVar i) n = refl
by_head ms (NTCon c) n = let same : n ≡ n + 0 = omega arith in ap (is_family_of (type_decl (ms c.module) c.text)) same
by_head ms NTInt n = refl
by_head ms (NTApp t u) n =
    let l = length-append (type_arguments t) (u ∷ []) in
    let count : suc n + length (type_arguments t) ≡ n + length (type_arguments t ++ u ∷ []) = omega (arith, l) in
    by_head ms t (suc n) ∙ ap (is_family_of (option_and_then (declaration_in ms) (declared_name (type_head t)))) count
by_head ms (NTFun t u) n = refl
by_head ms (NTForall k t) n = refl
by_head ms (NTCoForall r t u v) n = refl

pub length-reversed : (ns : List Node) (ks : List Kind) (ids : List TypeId) → length (reverse (shown_all_at ns ks ids)) ≡ length ids
length-reversed ns ks ids = length-reverse (shown_all_at ns ks ids) ∙ length-shown_all ns ks ids

-- what the declaration of the head tells of as many arguments
pub family-by_spine : (ms : Modules) (ns : List Node) (ks : List Kind) (t h : NTy) (ids : List TypeId) (o : Option NDecl) (b : Bool) → h ≡ type_head t
    → reverse (shown_all_at ns ks ids) ≡ type_arguments t
    → o ≡ option_and_then (declaration_in ms) (declared_name h) → b ≡ is_family_of o (length ids) → b ≡ is_family_applied ms 0 t
family-by_spine ms ns ks t h ids o b head arguments found answer =
    let l : length (type_arguments t) ≡ length ids = ap length (sym arguments) ∙ length-reversed ns ks ids in
    let count : length ids ≡ 0 + length (type_arguments t) = omega (arith, l) in
    answer ∙ ap (λ x. is_family_of x (length ids)) (found ∙ ap (λ x. option_and_then (declaration_in ms) (declared_name x)) head)
    ∙ ap (is_family_of (option_and_then (declaration_in ms) (declared_name (type_head t)))) count ∙ sym (by_head ms t 0)
