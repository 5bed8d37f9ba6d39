-- The interface of a module whose words are of their forms is formed.
use Rattle.std.proofs.Common.{◌≡◌, ℕ, ◌+◌, Bool, true, false, List, [], ◌∷◌, length, refl, sym, ap, ◌∙◌}
use Rattle.std.specs.Prelude.{◌&&◌}
use Rattle.std.specs.List.{list_all}
use Rattle.std.proofs.lemmas.Bool.{and_parts, and_from}
use Rattle.fc_syntax.specs.Demands.{Sig}
use Rattle.fc_syntax.specs.Tree.{Decl, DDef, DWrap, Module, ModuleOf}
use Rattle.fc_syntax.specs.Tokens.{is_module_name}
use Rattle.fc_model.specs.Formed.{FailUntold, IsFormed, IsInterfaceFormed, definition_count, is_decl_formed, is_expr_formed, is_lower_word, is_sig_formed, is_type_formed, is_word}
use Rattle.fc_model.specs.Headers.{decls_in}
use Rattle.fc_graph.specs.Graphs.{is_marked}
use Rattle.fc_iface.specs.Interfaces.{are_told, decl_told, decls_told, if_definition, interface_of, is_told}

-- what fails has no more words than its type
fails_formed : (w t e : Bool) → w && (t && e) ≡ true → w && (t && t) ≡ true
fails_formed w t e h =
    let p = and_parts w (t && e) h in
    let q = and_parts t e p.1 in and_from w (t && t) p.0 (and_from t t q.0 q.0)

decl_told_formed : (told : Bool) (d : Decl) → is_decl_formed d ≡ true → is_decl_formed (decl_told told d) ≡ true
decl_told_formed false (DDef x t e) h = fails_formed (is_lower_word x) (is_type_formed t) (is_expr_formed e) h
decl_told_formed false (DWrap x t e) h = fails_formed (is_lower_word x) (is_type_formed t) (is_expr_formed e) h
decl_told_formed false d h = h
decl_told_formed true d h = h

-- it is a definition as before
counts_the_same : (told : Bool) (d : Decl) (xs ys : List Decl) → definition_count xs ≡ definition_count ys → definition_count (decl_told told d ∷ xs) ≡ definition_count (d ∷ ys)
counts_the_same false (DDef x t e) xs ys h = ap (λ n. 1 + n) h
counts_the_same false (DWrap x t e) xs ys h = ap (λ n. 1 + n) h
counts_the_same false d xs ys h = h
counts_the_same true (DDef x t e) xs ys h = ap (λ n. 1 + n) h
counts_the_same true (DWrap x t e) xs ys h = ap (λ n. 1 + n) h
counts_the_same true d xs ys h = h

-- and where its right side is not told it is a `def` that fails
fails_more : (told : Bool) (d : Decl) (xs : List Decl) (others : List Bool) → FailUntold xs others → FailUntold (decl_told told d ∷ xs) (if_definition d told others)
fails_more false (DDef x t e) xs others h = (refl, h)
fails_more false (DWrap x t e) xs others h = (refl, h)
fails_more false d xs others h = h
fails_more true (DDef x t e) xs others h = h
fails_more true (DWrap x t e) xs others h = h
fails_more true d xs others h = h

module _ (grow : ℕ) (marks : List Bool) where
  decls_told_formed : (k : ℕ) (ds : List Decl) → list_all is_decl_formed ds ≡ true → list_all is_decl_formed (decls_told grow marks k ds) ≡ true
  decls_told_formed k [] h = refl
  decls_told_formed k (d ∷ ds) h =
      let p = and_parts (is_decl_formed d) (list_all is_decl_formed ds) h in
      and_from _ _ (decl_told_formed (is_told grow (is_marked marks k) d) d p.0) (decls_told_formed (k + 1) ds p.1)

  as_many_told : (k : ℕ) (ds : List Decl) → definition_count (decls_told grow marks k ds) ≡ definition_count ds
  as_many_told k [] = refl
  as_many_told k (d ∷ ds) = counts_the_same (is_told grow (is_marked marks k) d) d (decls_told grow marks (k + 1) ds) ds (as_many_told (k + 1) ds)

  untold_fail : (k : ℕ) (ds : List Decl) → FailUntold (decls_told grow marks k ds) (are_told grow marks k ds)
  untold_fail k [] = tt
  untold_fail k (d ∷ ds) = fails_more (is_told grow (is_marked marks k) d) d (decls_told grow marks (k + 1) ds) (are_told grow marks (k + 1) ds) (untold_fail (k + 1) ds)

  -- with a signature of formed demands for each definition
  pub interface_is_formed : (m : Module) (sigs : List Sig) → IsFormed m → length sigs ≡ definition_count (decls_in m) → list_all is_sig_formed sigs ≡ true
      → IsInterfaceFormed (interface_of grow marks m sigs)
  interface_is_formed (ModuleOf m imports exports hidden ds) sigs formed count demands =
      let p = and_parts (is_module_name m && list_all is_module_name imports) ((list_all is_word exports && list_all is_word hidden) && list_all is_decl_formed ds) formed in
      let q = and_parts (list_all is_word exports && list_all is_word hidden) (list_all is_decl_formed ds) p.1 in
      record {
        formed = and_from _ _ p.0 (and_from _ _ q.0 (decls_told_formed 0 ds q.1));
        one_sig = count ∙ sym (as_many_told 0 ds);
        demands = demands;
        untold = untold_fail 0 ds;
      }
