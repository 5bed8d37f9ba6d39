-- That files have an answer.
use Rattle.std.proofs.Common.{◌≡◌, ◌≤◌, ◌<◌, ◌-◌, ◌⊎◌, inl, inr, ℕ, arith, List, [], ◌∷◌, get_or, length, Option, Some, None, Result, Ok, Err, refl, sym, subst}
use Rattle.std.proofs.Math.Nat.{min-le_left}
use Rattle.std.proofs.lemmas.Bool.{cases_lt}
use Rattle.std.proofs.lemmas.Option.{slice_get-get_or}
use Rattle.fc_syntax.specs.Limits.{standard_limits}
use Rattle.fc_syntax.specs.Tokens.{ByteFault}
use Rattle.fc_syntax.specs.Tree.{Module}
use Rattle.fc_syntax.specs.declared.fault.Fault.{Fault}
use Rattle.fc_syntax.specs.declared.fault.FaultKind.TheVariants as kind
use Rattle.fc_syntax.specs.declared.fault.Place.TheVariants as place
use Rattle.fc_model.specs.Faulting.{At}
use Rattle.fc_model.specs.FileForms.{ModuleFile}
use Rattle.fc_model.specs.Linting.{Done, done, InModule, In, SetLints, set_judged}
use Rattle.fc_model.specs.Planning.{PlanFault, build_order, of_file, plan_fault}
use Rattle.fc_model.specs.ReadFaults.{FirstReadFault, ReadsTo}
use Rattle.fc_load.specs.Loading.{AllReadTo, Amount, FaultOfEntry, FaultOfReading, FileReadsTo, Holding, in_first, in_later, no_files, nothing_read, one_file, room_for_bytes, room_for_size, too_long as too_many_bytes, unread as unread_bytes, with_file}
use Rattle.fc_read_answers.proofs.EachText.{has_an_answer}
use Rattle.fc_build.specs.Acceptance.{Accepted, FaultOfSet, FirstFault, faulty, of_module, too_many, unlinted, unplanned, unread}

-- A SET OF MODULES

-- nothing stands against a set, or it has a fault
abbrev IsJudged : List Module → Type 0
IsJudged ms = ((plan_fault ms ≡ None) × SetLints (build_order ms)) ⊎ ((f : Fault) × FaultOfSet ms f)

linted : (ms : List Module) (r : Result Done InModule) → plan_fault ms ≡ None → set_judged (build_order ms) ≡ r → IsJudged ms
linted ms (Ok done) planned is = inl (planned, is)
linted ms (Err (In m (At k def path))) planned is = inr (of_module m k def path, unlinted m k def path planned is refl)

planned : (ms : List Module) (o : Option PlanFault) → plan_fault ms ≡ o → IsJudged ms
planned ms None is = linted ms (set_judged (build_order ms)) is refl
planned ms (Some p) is = inr (of_file p.kind p.name place.Nowhere, unplanned p is refl)

module _ (held : Holding) where
  -- READING

  -- files hold modules, or have a first fault of reading, behind what has been read
  abbrev AreRead : Amount → List (List ℕ) → Type 0
  AreRead read files = ((ms : List Module) × AllReadTo held read files ms) ⊎ ((f : Fault) × FaultOfReading held f read files)

  -- a file that holds a module, and those behind it
  behind : (read : Amount) (file bytes : List ℕ) (m : Module) (files : List (List ℕ)) → FileReadsTo held read file bytes m → AreRead (with_file read bytes m) files → AreRead read (file ∷ files)
  behind read file bytes m files here (inl (ms, others)) = inl (m ∷ ms, one_file here others)
  behind read file bytes m files here (inr (f, fault)) = inr (f, in_later here fault)

  -- a first file that has a fault
  stops : (read : Amount) (file : List ℕ) (files : List (List ℕ)) (o : Option (List ℕ)) (f : Fault) → held file ≡ o → FaultOfEntry read file o f → AreRead read (file ∷ files)
  stops read file files o f is fault = inr (f, in_first (subst (λ e. FaultOfEntry read file e f) (sym is) fault))

  of_text : (read : Amount) (file bytes : List ℕ) (files : List (List ℕ)) → held file ≡ Some bytes → length bytes ≤ room_for_bytes read → ((more : Amount) → AreRead more files)
      → ((m : Module) × ReadsTo ModuleFile (room_for_size read) bytes m) ⊎ ((e : ByteFault) × FirstReadFault ModuleFile (room_for_size read) bytes e) → AreRead read (file ∷ files)
  of_text read file bytes files is short others (inl (m, reads)) =
      let here : FileReadsTo held read file bytes m = record { holds = is; short = short; reads = reads } in behind read file bytes m files here (others (with_file read bytes m))
  of_text read file bytes files is short others (inr (e, fault)) =
      stops read file files (Some bytes) (of_file e.kind file (place.Byte e.at)) is (unread_bytes e short fault refl)

  of_bytes : (read : Amount) (file bytes : List ℕ) (files : List (List ℕ)) → held file ≡ Some bytes → ((more : Amount) → AreRead more files)
      → (room_for_bytes read < length bytes) ⊎ (length bytes ≤ room_for_bytes read) → AreRead read (file ∷ files)
  of_bytes read file bytes files is others (inl long) = stops read file files (Some bytes) (of_file kind.TooLong file (place.Byte (room_for_bytes read))) is (too_many_bytes long refl)
  of_bytes read file bytes files is others (inr short) =
      let fits : length bytes ≤ standard_limits.file_bytes = omega (arith, short, min-le_left standard_limits.file_bytes (standard_limits.set_bytes - read.bytes)) in
      of_text read file bytes files is short others (has_an_answer ModuleFile (room_for_size read) bytes fits)

  of_entry : (read : Amount) (file : List ℕ) (files : List (List ℕ)) (o : Option (List ℕ)) → held file ≡ o → ((more : Amount) → AreRead more files) → AreRead read (file ∷ files)
  of_entry read file files None is others = stops read file files None (of_file kind.Missing file place.Nowhere) is refl
  of_entry read file files (Some bytes) is others = of_bytes read file bytes files is others (cases_lt (room_for_bytes read) (length bytes))

  all_read : (read : Amount) (files : List (List ℕ)) → AreRead read files
  all_read read [] = inl ([], no_files)
  all_read read (file ∷ files) = of_entry read file files (held file) refl (λ more. all_read more files)

  -- ALL

  abbrev HaveAnAnswer : List (List ℕ) → Type 0
  HaveAnAnswer files = ((ms : List Module) × Accepted files held ms) ⊎ ((f : Fault) × FirstFault files held f)

  of_set : (files : List (List ℕ)) (ms : List Module) → length files ≤ standard_limits.modules → AllReadTo held nothing_read files ms → IsJudged ms → HaveAnAnswer files
  of_set files ms few read (inl (none, lints)) = inl (ms, record { few = few; read = read; planned = none; lints = lints })
  of_set files ms few read (inr (f, fault)) = inr (f, faulty ms few read fault)

  of_files : (files : List (List ℕ)) → length files ≤ standard_limits.modules → AreRead nothing_read files → HaveAnAnswer files
  of_files files few (inl (ms, read)) = of_set files ms few read (planned ms (plan_fault ms) refl)
  of_files files few (inr (f, fault)) = inr (f, unread few fault)

  by_number : (files : List (List ℕ)) → (standard_limits.modules < length files) ⊎ (length files ≤ standard_limits.modules) → HaveAnAnswer files
  by_number files (inl beyond) =
      let file : List ℕ = get_or files standard_limits.modules [] in inr (of_file kind.TooManyModules file place.Nowhere, too_many file (slice_get-get_or files standard_limits.modules [] beyond) refl)
  by_number files (inr few) = of_files files few (all_read nothing_read files)

  pub an_answer : (files : List (List ℕ)) → HaveAnAnswer files
  an_answer files = by_number files (cases_lt standard_limits.modules (length files))
