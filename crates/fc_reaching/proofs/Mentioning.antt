-- Lists that get the numbers of the definitions that a piece mentions, by one step a form.
use Rattle.std.proofs.Common.{◌≡◌, ◌<◌, ◌+◌, ℕ, ◌++◌, take, length, get_or, List, [], ◌∷◌, Option, Some, None, refl, sym, ap, ◌∙◌, subst, append_assoc}
use Rattle.std.specs.List.{filter_map}
use Rattle.std.proofs.lemmas.List.{append-nil, take_more}
use Rattle.std.proofs.lemmas.List.Elements.{filter_map-append}
use Rattle.fc_syntax.specs.declared.ty.Name.{Name}
use Rattle.fc_syntax.specs.declared.ty.Ref.{Ref}
use Rattle.fc_syntax.specs.declared.expr.Arg as A
use Rattle.fc_syntax.specs.declared.expr.Bind as RustBind
use Rattle.fc_syntax.specs.declared.expr.JoinBind as RustJoin
use Rattle.fc_syntax.specs.declared.expr.Alt as RustAlt
use Rattle.fc_syntax.specs.declared.expr.Expr as E
use Rattle.fc_model.specs.NamelessView.{narg_of, nargs_of, nexpr_of, nexprs_of, nbind_of, nbinds_of, njoin_of, njoins_of, nalt_of, nalts_of}
use Rattle.fc_reaching.specs.Numbering.{AddsNames}
use Rattle.fc_reaching.specs.Reaching.{names_in, names_in_alt, names_in_alts, names_in_arg, names_in_args, names_in_bind, names_in_binds, names_in_exprs, names_in_join, names_in_joins}

-- the items before one, with it
pub take_item : {X : Type 0} (items : List X) (i : ℕ) (x : X) → i < length items → x ≡ get_or items i x → take (i + 1) items ≡ take i items ++ x ∷ []
take_item items i x low is = take_more items i x low ∙ ap (λ z. take i items ++ z ∷ []) (sym is)

module _ {meant : Name → Option ℕ} where
  pub adds_none : (os : List Name) (ns : List ℕ) → os ≡ [] → AddsNames meant os ns ns
  adds_none os ns is = subst (λ ms. AddsNames meant ms ns ns) (sym is) (record { added = sym (append-nil ns) })

  pub adds_number : {n : Name} {i : ℕ} {ns : List ℕ} → meant n ≡ Some i → AddsNames meant (n ∷ []) ns (ns ++ i ∷ [])
  adds_number is = record { added = rw is refl }

  pub adds_nothing : {n : Name} {ns : List ℕ} → meant n ≡ None → AddsNames meant (n ∷ []) ns ns
  adds_nothing {ns = ns} is = record { added = rw is (sym (append-nil ns)) }

  -- the names of two pieces, one behind the other
  pub adds_both : {ms ns : List Name} {old mid new : List ℕ} → AddsNames meant ms old mid → AddsNames meant ns mid new → {os : List Name} → os ≡ ms ++ ns → AddsNames meant os old new
  adds_both {ms = ms} {ns = ns} {old = old} {new = new} a b is = subst (λ os. AddsNames meant os old new) (sym is) (record {
    added = b.added ∙ ap (λ is. is ++ filter_map meant ns) a.added ∙ append_assoc old (filter_map meant ms) (filter_map meant ns) ∙ ap (λ is. old ++ is) (sym (filter_map-append meant ms ns));
  })

  -- LISTS

  -- one item more, where the names of a list are those of its items
  item_adds : {X : Type 0} (names : List X → List Name) (of_item : X → List Name) → ((items : List X) (x : X) → names (items ++ x ∷ []) ≡ names items ++ of_item x)
      → (items : List X) (i : ℕ) (x : X) {old mid new : List ℕ} → i < length items → x ≡ get_or items i x
      → AddsNames meant (names (take i items)) old mid → AddsNames meant (of_item x) mid new → AddsNames meant (names (take (i + 1) items)) old new
  item_adds names of_item last items i x low is a b =
      adds_both a b (ap names (take_item items i x low is) ∙ last (take i items) x)

behind : {X : Type 0} (xs ys zs ws : List X) → ws ≡ ys ++ zs → xs ++ ws ≡ (xs ++ ys) ++ zs
behind xs ys zs ws e = ap (λ us. xs ++ us) e ∙ sym (append_assoc xs ys zs)

-- THE NAMES OF A LIST WITH ONE ITEM MORE

args_last : (items : List (A.Arg ℕ Ref)) (x : A.Arg ℕ Ref) → names_in_args (nargs_of (items ++ x ∷ [])) ≡ names_in_args (nargs_of items) ++ names_in_arg (narg_of x)
args_last [] x = append-nil (names_in_arg (narg_of x))
args_last (y ∷ items) x = behind (names_in_arg (narg_of y)) (names_in_args (nargs_of items)) (names_in_arg (narg_of x)) _ (args_last items x)

exprs_last : (items : List (E.Expr ℕ Ref)) (x : E.Expr ℕ Ref) → names_in_exprs (nexprs_of (items ++ x ∷ [])) ≡ names_in_exprs (nexprs_of items) ++ names_in (nexpr_of x)
exprs_last [] x = append-nil (names_in (nexpr_of x))
exprs_last (y ∷ items) x = behind (names_in (nexpr_of y)) (names_in_exprs (nexprs_of items)) (names_in (nexpr_of x)) _ (exprs_last items x)

binds_last : (items : List (RustBind.Bind ℕ Ref)) (x : RustBind.Bind ℕ Ref) → names_in_binds (nbinds_of (items ++ x ∷ [])) ≡ names_in_binds (nbinds_of items) ++ names_in_bind (nbind_of x)
binds_last [] x = append-nil (names_in_bind (nbind_of x))
binds_last (y ∷ items) x = behind (names_in_bind (nbind_of y)) (names_in_binds (nbinds_of items)) (names_in_bind (nbind_of x)) _ (binds_last items x)

joins_last : (items : List (RustJoin.JoinBind ℕ Ref)) (x : RustJoin.JoinBind ℕ Ref) → names_in_joins (njoins_of (items ++ x ∷ [])) ≡ names_in_joins (njoins_of items) ++ names_in_join (njoin_of x)
joins_last [] x = append-nil (names_in_join (njoin_of x))
joins_last (y ∷ items) x = behind (names_in_join (njoin_of y)) (names_in_joins (njoins_of items)) (names_in_join (njoin_of x)) _ (joins_last items x)

alts_last : (items : List (RustAlt.Alt ℕ Ref)) (x : RustAlt.Alt ℕ Ref) → names_in_alts (nalts_of (items ++ x ∷ [])) ≡ names_in_alts (nalts_of items) ++ names_in_alt (nalt_of x)
alts_last [] x = append-nil (names_in_alt (nalt_of x))
alts_last (y ∷ items) x = behind (names_in_alt (nalt_of y)) (names_in_alts (nalts_of items)) (names_in_alt (nalt_of x)) _ (alts_last items x)

module _ {meant : Name → Option ℕ} where
  pub adds_args : (items : List (A.Arg ℕ Ref)) (i : ℕ) (x : A.Arg ℕ Ref) {old mid new : List ℕ} → i < length items → x ≡ get_or items i x
      → AddsNames meant (names_in_args (nargs_of (take i items))) old mid → AddsNames meant (names_in_arg (narg_of x)) mid new → AddsNames meant (names_in_args (nargs_of (take (i + 1) items))) old new
  adds_args items i x low is a b = item_adds (λ xs. names_in_args (nargs_of xs)) (λ y. names_in_arg (narg_of y)) args_last items i x low is a b

  pub adds_exprs : (items : List (E.Expr ℕ Ref)) (i : ℕ) (x : E.Expr ℕ Ref) {old mid new : List ℕ} → i < length items → x ≡ get_or items i x
      → AddsNames meant (names_in_exprs (nexprs_of (take i items))) old mid → AddsNames meant (names_in (nexpr_of x)) mid new → AddsNames meant (names_in_exprs (nexprs_of (take (i + 1) items))) old new
  adds_exprs items i x low is a b = item_adds (λ xs. names_in_exprs (nexprs_of xs)) (λ y. names_in (nexpr_of y)) exprs_last items i x low is a b

  pub adds_binds : (items : List (RustBind.Bind ℕ Ref)) (i : ℕ) (x : RustBind.Bind ℕ Ref) {old mid new : List ℕ} → i < length items → x ≡ get_or items i x
      → AddsNames meant (names_in_binds (nbinds_of (take i items))) old mid → AddsNames meant (names_in_bind (nbind_of x)) mid new → AddsNames meant (names_in_binds (nbinds_of (take (i + 1) items))) old new
  adds_binds items i x low is a b = item_adds (λ xs. names_in_binds (nbinds_of xs)) (λ y. names_in_bind (nbind_of y)) binds_last items i x low is a b

  pub adds_joins : (items : List (RustJoin.JoinBind ℕ Ref)) (i : ℕ) (x : RustJoin.JoinBind ℕ Ref) {old mid new : List ℕ} → i < length items → x ≡ get_or items i x
      → AddsNames meant (names_in_joins (njoins_of (take i items))) old mid → AddsNames meant (names_in_join (njoin_of x)) mid new → AddsNames meant (names_in_joins (njoins_of (take (i + 1) items))) old new
  adds_joins items i x low is a b = item_adds (λ xs. names_in_joins (njoins_of xs)) (λ y. names_in_join (njoin_of y)) joins_last items i x low is a b

  pub adds_alts : (items : List (RustAlt.Alt ℕ Ref)) (i : ℕ) (x : RustAlt.Alt ℕ Ref) {old mid new : List ℕ} → i < length items → x ≡ get_or items i x
      → AddsNames meant (names_in_alts (nalts_of (take i items))) old mid → AddsNames meant (names_in_alt (nalt_of x)) mid new → AddsNames meant (names_in_alts (nalts_of (take (i + 1) items))) old new
  adds_alts items i x low is a b = item_adds (λ xs. names_in_alts (nalts_of xs)) (λ y. names_in_alt (nalt_of y)) alts_last items i x low is a b

pub ruleset name_adds = (adds_number, adds_nothing)
