-- That files hold at most one list of modules, and none where there is a first fault of reading, of which there is one at most.
use Rattle.std.proofs.Common.{◌≡◌, ◌∙◌, ℕ, List, ◌∷◌, Option, Some, None, refl, sym, ap, subst, arith}
use Rattle.fc_syntax.specs.Tokens.{ByteFault}
use Rattle.fc_syntax.specs.Tree.{Module}
use Rattle.fc_syntax.specs.declared.fault.Fault.{Fault}
use Rattle.fc_syntax.specs.declared.fault.Place.TheVariants as place
use Rattle.fc_model.specs.FileForms.{ModuleFile}
use Rattle.fc_model.specs.Planning.{of_file}
use Rattle.fc_model.specs.Texts.{Spells}
use Rattle.fc_reader.proofs.Laws.{none_spelled, one_spelled}
use Rattle.fc_reader.proofs.OneFault.{one_first_fault}
use Rattle.fc_load.specs.Loading.{Amount, AllReadTo, FaultOfBytes, FaultOfEntry, FaultOfReading, FileReadsTo, Holding, in_first, in_later, no_files, one_file, room_for_size, too_long, unread, with_file}

-- a file holds the same bytes each time
same_bytes : {held : Holding} {read : Amount} {file bytes others : List ℕ} {m n : Module} → FileReadsTo held read file bytes m → FileReadsTo held read file others n → bytes ≡ others
same_bytes p q = cc (p.holds, q.holds)

-- and the same module
same_module : {held : Holding} {read : Amount} {file bytes others : List ℕ} {m n : Module} → FileReadsTo held read file bytes m → FileReadsTo held read file others n → m ≡ n
same_module {bytes = bytes} {m = m} {n = n} p q = one_spelled ModuleFile bytes m n p.reads.spelled (subst (λ b. Spells b n) (sym (same_bytes p q)) q.reads.spelled)

-- so that the same is left for the files behind it
same_rest : {held : Holding} {read : Amount} {file bytes others : List ℕ} {m n : Module} → FileReadsTo held read file bytes m → FileReadsTo held read file others n → with_file read others n ≡ with_file read bytes m
same_rest {read = read} {bytes = bytes} {m = m} {n = n} p q = ap (λ b. with_file read b n) (sym (same_bytes p q)) ∙ ap (with_file read bytes) (sym (same_module p q))

-- of the modules of two lists, the first and the others
both_same : {m n : Module} {ms ns : List Module} → m ≡ n → ms ≡ ns → m ∷ ms ≡ n ∷ ns
both_same e es = cc

-- files hold at most one list of modules
pub one_reading : {held : Holding} {read : Amount} {files : List (List ℕ)} {ms ns : List Module} → AllReadTo held read files ms → AllReadTo held read files ns → ms ≡ ns
one_reading no_files no_files = refl
one_reading {held = held} (one_file {files = files} p ps) (one_file {ms = ns} q qs) = both_same (same_module p q) (one_reading ps (subst (λ r. AllReadTo held r files ns) (same_rest p q) qs))

-- bytes that hold a module have no fault
no_fault_of_bytes : (held : Holding) (read : Amount) (file bytes : List ℕ) (m : Module) (f : Fault) → FileReadsTo held read file bytes m → FaultOfBytes read file bytes f → ⊥
no_fault_of_bytes held read file bytes m f p (too_long more is) = omega (arith, p.short)
no_fault_of_bytes held read file bytes m f p (unread fault short first is) = none_spelled ModuleFile (room_for_size read) bytes fault m first p.reads

-- files that hold modules have no fault of reading
pub no_fault_of_read : {held : Holding} {read : Amount} {files : List (List ℕ)} {ms : List Module} {f : Fault} → AllReadTo held read files ms → FaultOfReading held f read files → ⊥
no_fault_of_read no_files none = elim none [ ]
no_fault_of_read {held = held} {f = f} (one_file {read = read} {file = file} {bytes = bytes} {m = m} p ps) (in_first e) = no_fault_of_bytes held read file bytes m f p (subst (λ entry. FaultOfEntry read file entry f) p.holds e)
no_fault_of_read {held = held} {f = f} (one_file {files = files} p ps) (in_later q more) = no_fault_of_read ps (subst (λ r. FaultOfReading held f r files) (same_rest p q) more)

-- bytes have one fault at most
one_fault_of_bytes : (read : Amount) (file bytes : List ℕ) (f g : Fault) → FaultOfBytes read file bytes f → FaultOfBytes read file bytes g → f ≡ g
one_fault_of_bytes read file bytes f g (too_long more is) (too_long more' is') = is ∙ sym is'
one_fault_of_bytes read file bytes f g (too_long more is) (unread e short first is') = absurd (omega arith)
one_fault_of_bytes read file bytes f g (unread e short first is) (too_long more is') = absurd (omega arith)
one_fault_of_bytes read file bytes f g (unread e short first is) (unread d short' first' is') =
    is ∙ ap (λ (x : ByteFault). of_file x.kind file (place.Byte x.at)) (one_first_fault ModuleFile (room_for_size read) bytes e d first first') ∙ sym is'

one_fault_of_entry : (read : Amount) (file : List ℕ) (entry : Option (List ℕ)) (f g : Fault) → FaultOfEntry read file entry f → FaultOfEntry read file entry g → f ≡ g
one_fault_of_entry read file None f g is is' = is ∙ sym is'
one_fault_of_entry read file (Some bytes) f g e e' = one_fault_of_bytes read file bytes f g e e'

-- so has reading
pub one_fault_of_read : {held : Holding} {f g : Fault} {read : Amount} {files : List (List ℕ)} → FaultOfReading held f read files → FaultOfReading held g read files → f ≡ g
one_fault_of_read {held = held} {f = f} {g = g} (in_first {read = read} {file = file} e) (in_first e') = one_fault_of_entry read file (held file) f g e e'
one_fault_of_read {held = held} {f = f} (in_first {read = read} {file = file} e) (in_later {bytes = bytes} {m = m} q more) =
    absurd (no_fault_of_bytes held read file bytes m f q (subst (λ entry. FaultOfEntry read file entry f) q.holds e))
one_fault_of_read {held = held} {g = g} (in_later {read = read} {file = file} {bytes = bytes} {m = m} q more) (in_first e) =
    absurd (no_fault_of_bytes held read file bytes m g q (subst (λ entry. FaultOfEntry read file entry g) q.holds e))
one_fault_of_read {held = held} {g = g} (in_later {files = files} p more) (in_later q more') = one_fault_of_read more (subst (λ r. FaultOfReading held g r files) (same_rest p q) more')
