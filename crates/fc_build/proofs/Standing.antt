-- The files of a build stand when all are written: no two of them have one name.
use Rattle.std.proofs.Common.{◌≡◌, ◌≢◌, ◌∙◌, ℕ, false, bytes_eq, All, List, [], ◌∷◌, ◌++◌, codes, map, reverse, Option, Some, refl, sym, ap, subst, arith}
use Rattle.std.proofs.lemmas.List.{append_cancel_left, append_cancel_right, reverse-append}
use Rattle.std.proofs.lemmas.List.Elements.{All-head, All-tail}
use Rattle.std.proofs.lemmas.Slice.Eq.{bytes_eq-Decides}
use Rattle.fc_files.specs.Outside.{FileMap, put}
use Rattle.fc_syntax.specs.Tree.{Module}
use Rattle.fc_model.specs.Canonical.{canonical}
use Rattle.fc_model.specs.Grammar.{Interface}
use Rattle.fc_model.specs.Headers.{name_of}
use Rattle.fc_model.specs.InterfaceTexts.{interface_text}
use Rattle.fc_model.specs.Linting.{nameless_forms}
use Rattle.fc_model.specs.Nameless.{NModule}
use Rattle.fc_model.proofs.Sameness.{bytes_eq_refl}
use Rattle.fc_log.specs.Texts.{log_text}
use Rattle.fc_log.specs.declared.log.Log.{Log}
use Rattle.fc_words.specs.declared.Tuning.{Tuning}
use Rattle.fc_build.specs.Building.{AreBuilt, HoldInterfaces, HoldLogs, HoldModules, IsBuilt, Stand, no_interfaces, no_logs, no_modules, none_built, one_built, one_interface, one_log, one_module}
use Rattle.fc_build.specs.Product.{Step, all_files, core_name, file_name, interface_name, log_name, put_all}
use Rattle.fc_replayed_sets.proofs.Ordered.{AreDistinctWords}

-- NAMES OF FILES

differ : (p q : List ℕ) → p ≢ q → bytes_eq p q ≡ false
differ p q apart = grind (arith, bytes_eq-Decides p q)

false_differ : (p q : List ℕ) → bytes_eq p q ≡ false → p ≢ q
false_differ p q e same = grind (arith, bytes_eq-Decides p q)

-- the three files of a module
data Kind : Type 0 where
  Core : Kind
  Face : Kind
  Told : Kind

abbrev ending : Kind → List ℕ
ending Core = codes ".opt.fc"
ending Face = codes ".fci"
ending Told = codes ".why"

-- their endings have different last letters
abbrev letter : Kind → ℕ
letter Core = 99
letter Face = 105
letter Told = 121

abbrev first_of : List ℕ → ℕ
first_of [] = 0
first_of (n ∷ ns) = n

last_letter : (k : Kind) (v : List ℕ) → first_of (reverse (ending k) ++ v) ≡ letter k
last_letter Core v = refl
last_letter Face v = refl
last_letter Told v = refl

same_ending : (k l : Kind) → letter k ≡ letter l → ending k ≡ ending l
same_ending Core Core e = refl
same_ending Core Face e = absurd (omega (arith, e))
same_ending Core Told e = absurd (omega (arith, e))
same_ending Face Core e = absurd (omega (arith, e))
same_ending Face Face e = refl
same_ending Face Told e = absurd (omega (arith, e))
same_ending Told Core e = absurd (omega (arith, e))
same_ending Told Face e = absurd (omega (arith, e))
same_ending Told Told e = refl

-- files of one name have one ending
same_letter : (prefix : List ℕ) (k l : Kind) (m n : Module) → file_name prefix m (ending k) ≡ file_name prefix n (ending l) → letter k ≡ letter l
same_letter prefix k l m n e =
    let ends : name_of m ++ ending k ≡ name_of n ++ ending l = append_cancel_left prefix (name_of m ++ ending k) (name_of n ++ ending l) e in
    sym (last_letter k (reverse (name_of m)))
    ∙ ap first_of (sym (reverse-append (name_of m) (ending k)) ∙ ap reverse ends ∙ reverse-append (name_of n) (ending l))
    ∙ last_letter l (reverse (name_of n))

-- and are of one module
same_module : (prefix end : List ℕ) (m n : Module) → file_name prefix m end ≡ file_name prefix n end → name_of m ≡ name_of n
same_module prefix end m n e = append_cancel_right (name_of m) (name_of n) end (append_cancel_left prefix (name_of m ++ end) (name_of n ++ end) e)

kinds_apart : (prefix : List ℕ) (k l : Kind) (m : Module) → (letter k ≡ letter l → ⊥) → bytes_eq (file_name prefix m (ending k)) (file_name prefix m (ending l)) ≡ false
kinds_apart prefix k l m apart = differ (file_name prefix m (ending k)) (file_name prefix m (ending l)) (λ e. apart (same_letter prefix k l m m e))

modules_apart : (prefix : List ℕ) (k l : Kind) (m n : Module) → bytes_eq (name_of m) (name_of n) ≡ false → bytes_eq (file_name prefix n (ending k)) (file_name prefix m (ending l)) ≡ false
modules_apart prefix k l m n apart =
    differ (file_name prefix n (ending k)) (file_name prefix m (ending l)) (λ e.
    let same = same_ending k l (same_letter prefix k l n m e) in
    false_differ (name_of m) (name_of n) apart (sym (same_module prefix (ending k) n m (e ∙ ap (file_name prefix m) (sym same)))))

module _ (tuning : Tuning) (prefix : List ℕ) where
  -- the files of one step
  abbrev put_files : Module → Interface → Log → FileMap → FileMap
  put_files m i l old = put (log_name prefix m) (log_text l) (put (interface_name prefix m) (interface_text i) (put (core_name prefix m) (canonical m) old))

  -- the files of the first step and of those behind it
  first_files : (form : NModule) (l : Log) (m : Module) (s : Step) (ss : List Step) (old : FileMap) (built : IsBuilt tuning prefix form l m s)
      → put_all (all_files (s ∷ ss)) old ≡ put_all (all_files ss) (put_files m built.interface l old)
  first_files form l m s ss old built = ap (λ (t : Step). put_all (t.files ++ all_files ss) old) built.is

  -- files of a module of another name leave those of a module as they are
  passed : (k : Kind) (m n : Module) (i : Interface) (l : Log) (old : FileMap) → bytes_eq (name_of m) (name_of n) ≡ false
      → put_files n i l old (file_name prefix m (ending k)) ≡ old (file_name prefix m (ending k))
  passed k m n i l old apart = rw (modules_apart prefix Told k m n apart, modules_apart prefix Face k m n apart, modules_apart prefix Core k m n apart) refl

  kept : (k : Kind) (m : Module) {forms : List NModule} {ls : List Log} {ms : List Module} {steps : List Step} (old : FileMap) → AreBuilt tuning prefix forms ls ms steps
      → All (λ v. bytes_eq (name_of m) v ≡ false) (map name_of ms) → put_all (all_files steps) old (file_name prefix m (ending k)) ≡ old (file_name prefix m (ending k))
  kept k m old none_built apart = refl
  kept k m old (one_built {form = form} {l = l} {m = n} {s = s} {ms = ms} {steps = ss} built rest) apart =
      let name = file_name prefix m (ending k) in
      ap (λ (f : FileMap). f name) (first_files form l n s ss old built)
      ∙ kept k m (put_files n built.interface l old) rest (All-tail (λ v. bytes_eq (name_of m) v ≡ false) (name_of n) (map name_of ms) apart)
      ∙ passed k m n built.interface l old (All-head (λ v. bytes_eq (name_of m) v ≡ false) (name_of n) (map name_of ms) apart)

  -- WHAT STANDS

  core_is_put : (m : Module) (i : Interface) (l : Log) (old : FileMap) → put_files m i l old (core_name prefix m) ≡ Some (canonical m)
  core_is_put m i l old = rw (kinds_apart prefix Told Core m (λ e. omega (arith, e)), kinds_apart prefix Face Core m (λ e. omega (arith, e)), bytes_eq_refl (core_name prefix m)) refl

  interface_is_put : (m : Module) (i : Interface) (l : Log) (old : FileMap) → put_files m i l old (interface_name prefix m) ≡ Some (interface_text i)
  interface_is_put m i l old = rw (kinds_apart prefix Told Face m (λ e. omega (arith, e)), bytes_eq_refl (interface_name prefix m)) refl

  log_is_put : (m : Module) (i : Interface) (l : Log) (old : FileMap) → put_files m i l old (log_name prefix m) ≡ Some (log_text l)
  log_is_put m i l old = rw (bytes_eq_refl (log_name prefix m)) refl

  -- what is put for a first module stands in the end, since no module behind it has its name
  first_stands : (k : Kind) (text : List ℕ) {form : NModule} {l : Log} {m : Module} {s : Step} {forms : List NModule} {ls : List Log} {ms : List Module} {ss : List Step}
      (built : IsBuilt tuning prefix form l m s) → AreBuilt tuning prefix forms ls ms ss → All (λ v. bytes_eq (name_of m) v ≡ false) (map name_of ms) → (old new : FileMap)
      → put_files m built.interface l old (file_name prefix m (ending k)) ≡ Some text → new ≡ put_all (all_files (s ∷ ss)) old → new (file_name prefix m (ending k)) ≡ Some text
  first_stands k text {form = form} {l = l} {m = m} {s = s} {ss = ss} built rest apart old new here e =
      ap (λ (f : FileMap). f (file_name prefix m (ending k))) (e ∙ first_files form l m s ss old built) ∙ kept k m (put_files m built.interface l old) rest apart ∙ here

  -- the entries of all three kinds
  abbrev All_stand : List NModule → List Log → List Module → FileMap → Type 0
  All_stand forms ls ms new =
      HoldModules (map (λ m. new (core_name prefix m)) ms) ms × HoldInterfaces tuning.grow (map (λ m. new (interface_name prefix m)) ms) forms ms
      × HoldLogs (map (λ m. new (log_name prefix m)) ms) ls

  all_stand : {forms : List NModule} {ls : List Log} {ms : List Module} {steps : List Step} → AreBuilt tuning prefix forms ls ms steps → AreDistinctWords (map name_of ms)
      → (old new : FileMap) → new ≡ put_all (all_files steps) old → All_stand forms ls ms new
  all_stand none_built distinct old new e = (no_modules, no_interfaces, no_logs)
  all_stand (one_built {form = form} {l = l} {m = m} {s = s} {forms = forms} {ls = ls} {ms = ms} {steps = ss} built rest) distinct old new e =
      let behind = all_stand rest distinct.1 (put_files m built.interface l old) new (e ∙ first_files form l m s ss old built) in
      let core = first_stands Core (canonical m) built rest distinct.0 old new (core_is_put m built.interface l old) e in
      let face = first_stands Face (interface_text built.interface) built rest distinct.0 old new (interface_is_put m built.interface l old) e in
      let told = first_stands Told (log_text l) built rest distinct.0 old new (log_is_put m built.interface l old) e in (
        subst (λ (entry : Option (List ℕ)). HoldModules (entry ∷ map (λ n. new (core_name prefix n)) ms) (m ∷ ms)) (sym core) (one_module built.core_spells behind.0),
        subst (λ (entry : Option (List ℕ)). HoldInterfaces tuning.grow (entry ∷ map (λ n. new (interface_name prefix n)) ms) (form ∷ forms) (m ∷ ms)) (sym face)
            (one_interface built.interface built.tells built.interface_spells behind.1),
        subst (λ (entry : Option (List ℕ)). HoldLogs (entry ∷ map (λ n. new (log_name prefix n)) ms) (l ∷ ls)) (sym told) (one_log built.log_spells behind.2),
      )

  pub stand : (written : List Module) (logs : List Log) (steps : List Step) → AreBuilt tuning prefix (nameless_forms written) logs written steps → AreDistinctWords (map name_of written)
      → (old new : FileMap) → new ≡ put_all (all_files steps) old → Stand tuning prefix written logs new
  stand written logs steps built distinct old new e = let all = all_stand built distinct old new e in record { cores = all.0; interfaces = all.1; logs = all.2 }
