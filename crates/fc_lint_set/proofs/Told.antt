-- How what the code answers of a module meets the judgement of a set.
use Rattle.std.proofs.Common.{◌≡◌, ◌∙◌, ℕ, ◌+◌, ◌<◌, ◌≤◌, Bool, true, false, List, [], ◌∷◌, ◌++◌, append_assoc, append-nil, arith, drop, get_or, length, map, slice_get, take, Option, Some, Result, Ok, Err, refl, sym, ap, subst}
use Rattle.std.proofs.lemmas.List.{drop_all, length-map, map-append, take_more}
use Rattle.std.proofs.lemmas.Option.{slice_get-map, slice_get_read, slice_get_within}
use Rattle.std.specs.Option.{option_map}
use Rattle.fc_syntax.specs.Hints.{module_hints}
use Rattle.fc_syntax.specs.Tree.{Word, Module}
use Rattle.fc_syntax.specs.View.{module_of}
use Rattle.fc_syntax.specs.declared.module.Module as rust
use Rattle.fc_syntax.specs.declared.ty.Name.{Name}
use Rattle.fc_syntax.specs.declared.ty.Ref.{Ref}
use Rattle.fc_model.specs.Faulting.{F}
use Rattle.fc_model.specs.Headers.{name_of}
use Rattle.fc_model.specs.Kinding.{Modules, decls_at}
use Rattle.fc_model.specs.Linting.{Done, done, InModule, In, modules_judged, nameless_forms, offers_of}
use Rattle.fc_model.specs.Nameless.{NModule}
use Rattle.fc_model.specs.NamelessView.{nmodule_of, nmodules_of}
use Rattle.fc_model.specs.Resolution.{resolved_among, resolved_or_fault}
use Rattle.fc_model.specs.Says.{Refuses, fault_of}
use Rattle.fc_model.specs.declared.flaw.Flaw.{Flaw}
use Rattle.fc_model.specs.declared.flaw.Flawed.{Flawed}
use Rattle.fc_model.specs.declared.flaw.Flawed.TheVariants as flawed
use Rattle.fc_model.proofs.Lists.{drop_item}
use Rattle.fc_lint_set.specs.Sets.{AllNamed, AreNames, EndsForms, ResolveBehind, SetRefuses, StandsInModule, hints_kept, names_among, names_judged}
use Rattle.fc_lint_set.specs.declared.sets.Naming.{Naming}
use Rattle.fc_lint_set.specs.declared.sets.Naming.TheVariants as naming
use Rattle.fc_plan.specs.Modules.{behind}
use Rattle.fc_lint_set.specs.declared.sets.SetFlawed.{SetFlawed}
use Rattle.fc_lint_set.specs.declared.sets.SetFlawed.TheVariants as set
use Rattle.fc_lint_set.proofs.SetForms.{behind_known, behind_names, form_last, form_passed, form_refused, forms_within, known_behind, unnamed_refused}
use denote.Ref.{Bor}

-- a module that is referred to, and a nameless one
abbrev pub Referred : Type 0
Referred = Bor (rust.Module Word Name)

abbrev pub Form : Type 0
Form = rust.Module ℕ Ref

-- a premise that fails in a module is told with the name of the module
refused_in : (w : Word) (flaw : Flawed) (e : SetFlawed) (r : Result Done F) (whole : Result Done InModule) → Refuses flaw r → StandsInModule w flaw e
    → ((f : F) → r ≡ Err f → whole ≡ Err (In w f)) → SetRefuses e whole
refused_in w flawed.Memory e r whole says stands go = subst (λ x. SetRefuses x whole) (sym stands) tt
refused_in w (flawed.Flaw f) set.Memory r whole says stands go = tt
refused_in w (flawed.Flaw f) (set.Flaw n g) r whole says stands go =
    go (fault_of f) says ∙ sym (ap (λ v. Err (In v (fault_of g))) stands.0 ∙ ap (λ x. Err (In w (fault_of x))) stands.1)

-- the item of a number, in a list that shows it
shown_at : {X Y : Type 0} (view : X → Y) (xs : List X) (i : ℕ) (x : X) → i < length xs → x ≡ get_or xs i x → slice_get (map view xs) i ≡ Some (view x)
shown_at view xs i x low is = slice_get-map view xs i ∙ ap (option_map view) (slice_get_read xs (length xs) i x refl low is)

-- the number of a form is the number of a module
pub form_within : (forms : List Form) (modules : List Referred) (i : ℕ) → nmodules_of forms ≡ nameless_forms (behind modules) → i < length forms → i < length modules
form_within forms modules i are low =
    let as_many : length (nmodules_of forms) ≡ length (nameless_forms (behind modules)) = ap length are in
    let count : length (behind modules) ≡ length modules = length-map modules (λ m. module_of m.now) in
    omega (arith, length-map forms nmodule_of, as_many, count, forms_within (behind modules))

-- the number behind those of all forms is that of a module, where one has a fault of names
end_within : (modules : List Referred) (count : ℕ) (f : Flaw) → EndsForms (behind modules) count (Some f) → count < length modules
end_within modules count f ends =
    let within : count < length (behind modules) = slice_get_within (behind modules) count ends.0 ends.1 in
    let same : length (behind modules) ≡ length modules = length-map modules (λ m. module_of m.now) in
    omega arith

-- that module is told
ended_badly : (ns : List NModule) (ms : List Module) (count : ℕ) (m : Module) (f : Flaw) → EndsForms ms count (Some f) → slice_get ms count ≡ Some m → modules_judged ns (drop count ms) ≡ Err (In (name_of m) (fault_of f))
ended_badly ns ms count m f ends here =
    let same : ends.0 ≡ m = cc (ends.1, here) in
    subst (λ k. modules_judged ns (drop count ms) ≡ Err (In (name_of k) (fault_of f))) same (unnamed_refused ns ms count ends.0 (fault_of f) ends.1 ends.2)

-- the module of a number, and its form, which stand at this number
record StandAt (ms : List Module) (i : ℕ) (m : Module) (n : NModule) : Type 0 where
  pub here : slice_get ms i ≡ Some m
  pub form : slice_get (nameless_forms ms) i ≡ Some n

stand_at : (forms : List Form) (modules : List Referred) (i : ℕ) (k : Form) (r : Referred) → k ≡ get_or forms i k → r ≡ get_or modules i r
    → nmodules_of forms ≡ nameless_forms (behind modules) → i < length forms → StandAt (behind modules) i (module_of r.now) (nmodule_of k)
stand_at forms modules i k r k_is r_is are low = record {
  here = shown_at (λ x. module_of x.now) modules i r (form_within forms modules i are low) r_is;
  form = subst (λ xs. slice_get xs i ≡ Some (nmodule_of k)) are (shown_at nmodule_of forms i k low k_is);
}

-- a module of a set in which a premise fails behind its own names
pub form_told : (forms : List Form) (modules : List Referred) (i : ℕ) (k : Form) (r : Referred) (known : Naming) (ds : Modules) (flaw : Flawed) (e : SetFlawed)
    → k ≡ get_or forms i k → r ≡ get_or modules i r → nmodules_of forms ≡ nameless_forms (behind modules) → AreNames (nmodules_of forms) (behind modules) known → ds ≡ decls_at (nmodules_of forms)
    → modules_judged (nmodules_of forms) (behind modules) ≡ modules_judged (nmodules_of forms) (drop i (behind modules)) → i < length forms
    → Refuses flaw (behind_known (names_judged known (module_of r.now)) ds (nmodule_of k)) → StandsInModule r.now.name flaw e
    → SetRefuses e (modules_judged (nmodules_of forms) (behind modules))
form_told forms modules i k r known ds flaw e k_is r_is are has declared so_far low says stands =
    let ns : List NModule = nmodules_of forms in
    let ms : List Module = behind modules in
    let m : Module = module_of r.now in
    let n : NModule = nmodule_of k in
    let at = stand_at forms modules i k r k_is r_is are low in
    let judged : Refuses flaw (behind_names ns m n) = subst (Refuses flaw) (known_behind ns m n (names_judged known m) (has i m at.here)) (subst (λ x. Refuses flaw (behind_known (names_judged known m) x n)) declared says) in
    refused_in r.now.name flaw e (behind_names ns m n) (modules_judged ns ms) judged stands (λ f h. so_far ∙ form_refused ns ms i m n f at.here at.form h)

-- one in which all hold is passed
pub form_holds : (forms : List Form) (modules : List Referred) (i : ℕ) (k : Form) (r : Referred) (known : Naming) (ds : Modules)
    → k ≡ get_or forms i k → r ≡ get_or modules i r → nmodules_of forms ≡ nameless_forms (behind modules) → AreNames (nmodules_of forms) (behind modules) known → ds ≡ decls_at (nmodules_of forms)
    → modules_judged (nmodules_of forms) (behind modules) ≡ modules_judged (nmodules_of forms) (drop i (behind modules)) → i < length forms
    → behind_known (names_judged known (module_of r.now)) ds (nmodule_of k) ≡ Ok done
    → modules_judged (nmodules_of forms) (behind modules) ≡ modules_judged (nmodules_of forms) (drop (i + 1) (behind modules))
form_holds forms modules i k r known ds k_is r_is are has declared so_far low says =
    let ns : List NModule = nmodules_of forms in
    let ms : List Module = behind modules in
    let m : Module = module_of r.now in
    let n : NModule = nmodule_of k in
    let at = stand_at forms modules i k r k_is r_is are low in
    let judged : behind_names ns m n ≡ Ok done = sym (known_behind ns m n (names_judged known m) (has i m at.here)) ∙ subst (λ x. behind_known (names_judged known m) x n ≡ Ok done) declared says in
    so_far ∙ form_passed ns ms i m n at.here at.form judged

-- the module behind those that have forms, which has a fault of names
pub end_told : (ns : List NModule) (modules : List Referred) (count i : ℕ) (r : Referred) (o : Option Flaw) (f : Flaw) (e : SetFlawed)
    → r ≡ get_or modules i r → EndsForms (behind modules) count o → o ≡ Some f → i ≡ count → StandsInModule r.now.name (flawed.Flaw f) e → SetRefuses e (modules_judged ns (drop count (behind modules)))
end_told ns modules count i r o f e r_is ends is same stands =
    let m : Module = module_of r.now in
    let badly : EndsForms (behind modules) count (Some f) = subst (EndsForms (behind modules) count) is ends in
    let at_count : r ≡ get_or modules count r = subst (λ j. r ≡ get_or modules j r) same r_is in
    let here : slice_get (behind modules) count ≡ Some m = shown_at (λ x. module_of x.now) modules count r (end_within modules count f badly) at_count in
    let fault : Result Done F = Err (fault_of f) in
    refused_in r.now.name (flawed.Flaw f) e fault (modules_judged ns (drop count (behind modules))) refl stands
    (λ g h. let one : fault_of f ≡ g = cc in ended_badly ns (behind modules) count m f badly here ∙ ap (λ x. Err (In r.now.name x)) one)

-- forms are ended by the first module that has none
pub forms_ended : (modules : List Referred) (found : List NModule) (count i : ℕ) (r : Referred) (q : Flawed) (f x : Flaw) → r ≡ get_or modules i r → i < length modules
    → count ≡ i → found ++ nameless_forms (behind (drop i modules)) ≡ nameless_forms (behind modules) → Refuses q (resolved_or_fault (module_of r.now)) → q ≡ flawed.Flaw f → x ≡ f
    → (found ≡ nameless_forms (behind modules)) × EndsForms (behind modules) count (Some x)
forms_ended modules found count i r q f x r_is low at so_far says is same =
    let m : Module = module_of r.now in
    let fault : resolved_or_fault m ≡ Err (fault_of x) = subst (λ g. resolved_or_fault m ≡ Err (fault_of g)) (sym same) (subst (λ z. Refuses z (resolved_or_fault m)) is says) in
    let left : behind (drop i modules) ≡ m ∷ behind (drop (i + 1) modules) = ap behind (drop_item modules i r low r_is) in
    let here : slice_get (behind modules) count ≡ Some m = ap (slice_get (behind modules)) at ∙ shown_at (λ y. module_of y.now) modules i r low r_is in
    (sym (form_last found m (behind (drop (i + 1) modules)) (fault_of x) fault) ∙ sym (ap (λ ms. found ++ nameless_forms ms) left) ∙ so_far, (m, here, fault))

-- what is known of the names of modules, whether it was seen on the way or is looked for
pub names_are : (ns : List NModule) (ms : List Module) (b : Bool) (n : Naming) → (b ≡ true → AllNamed ns ms) → (b ≡ true → n ≡ naming.Known)
    → (b ≡ false → names_judged n ≡ names_among (offers_of ns)) → AreNames ns ms n
names_are ns ms true n all is among = λ i m h. ap (λ k. names_judged k m) (is refl) ∙ sym (all refl i m h)
names_are ns ms false n all is among = λ i m h. ap (λ (f : Module → Result Done F). f m) (among refl)

-- one module more that names of those before it what they have for others
pub named_step : (modules : List Referred) (found : List NModule) (i : ℕ) (r : Referred) (k : NModule) → i < length modules → r ≡ get_or modules i r → resolved_among (offers_of found) (module_of r.now) ≡ Ok k
    → ((ks : List NModule) → ResolveBehind found (behind (drop i modules)) ks → ResolveBehind [] (behind modules) (found ++ ks))
    → (ks : List NModule) → ResolveBehind (found ++ k ∷ []) (behind (drop (i + 1) modules)) ks → ResolveBehind [] (behind modules) ((found ++ k ∷ []) ++ ks)
named_step modules found i r k low is here so_far ks h =
    let left : behind (drop i modules) ≡ module_of r.now ∷ behind (drop (i + 1) modules) = ap behind (drop_item modules i r low is) in
    subst (ResolveBehind [] (behind modules)) (sym (append_assoc found (k ∷ []) ks)) (so_far (k ∷ ks) (subst (λ ms. ResolveBehind found ms (k ∷ ks)) (sym left) (here, h)))

-- one form more that keeps the words of its module
pub words_step : (modules : List Referred) (forms : List Form) (i : ℕ) (r : Referred) (k : Form) → i < length modules → r ≡ get_or modules i r
    → map hints_kept forms ≡ map module_hints (behind (take i modules)) → hints_kept k ≡ module_hints (module_of r.now)
    → map hints_kept (forms ++ k ∷ []) ≡ map module_hints (behind (take (i + 1) modules))
words_step modules forms i r k low is so_far words =
    let ms : List Module = behind (take i modules) in
    let more : behind (take (i + 1) modules) ≡ ms ++ module_of r.now ∷ []
    = ap behind (take_more modules i r low ∙ ap (λ m. take i modules ++ m ∷ []) (sym is)) ∙ map-append (λ m. module_of m.now) (take i modules) (r ∷ []) in
    map-append hints_kept forms (k ∷ []) ∙ ap (λ w. map hints_kept forms ++ w ∷ []) words ∙ ap (λ ws. ws ++ module_hints (module_of r.now) ∷ []) so_far
    ∙ sym (map-append module_hints ms (module_of r.now ∷ [])) ∙ sym (ap (map module_hints) more)

-- where all are found, nothing is still to come
pub named_all : (modules : List Referred) (found : List NModule) (i : ℕ) → length modules ≤ i
    → ((ks : List NModule) → ResolveBehind found (behind (drop i modules)) ks → ResolveBehind [] (behind modules) (found ++ ks)) → ResolveBehind [] (behind modules) found
named_all modules found i past so_far =
    let none : behind (drop i modules) ≡ [] = ap behind (drop_all i modules past) in
    subst (ResolveBehind [] (behind modules)) (append-nil found) (so_far [] (subst (λ ms. ResolveBehind found ms []) (sym none) tt))
