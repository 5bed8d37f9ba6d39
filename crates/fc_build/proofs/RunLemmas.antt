-- What the parts of the work come to in the answers of the top call.
use Rattle.std.proofs.Common.{◌≡◌, ◌⊎◌, ◌∙◌, ◌∷◌, ℕ, List, [], map, Option, Some, None, IfSome, inr, refl, sym, ap, subst, arith}
use Rattle.fc_files.specs.Outside.{FileMap, Rose, Told}
use Rattle.fc_syntax.specs.Tree.{Module}
use Rattle.fc_syntax.specs.declared.fault.Fault.{Fault}
use Rattle.fc_model.specs.Headers.{name_of}
use Rattle.fc_model.specs.Planning.{build_order}
use Rattle.fc_words.specs.Asking.{Asked, Order, Building, Explaining, Linting, asked}
use Rattle.fc_log.specs.declared.log.Log.{Log}
use Rattle.fc_words.specs.declared.Tuning.{Tuning}
use Rattle.fc_build.specs.Acceptance.{Accepted, FirstFault}
use Rattle.fc_replayed_sets.specs.Faithful.{AreFaithful}
use Rattle.fc_build.specs.Building.{AreSteps, IsBuild, IsReading, Leaves, Stand}
use Rattle.fc_build.specs.Delivering.{Delivers, IsSameDevice}
use Rattle.fc_build.specs.Preparing.{IsAccepted, IsProduct, Stops, files_in}
use Rattle.fc_build.specs.Product.{Step, all_files, explained_step, linted_step, put_all}
use Rattle.fc_build.specs.Ending.{TellsDelivery, delivery_status, stop_status}
use Rattle.fc_build.specs.Run.{IsDone, IsMemoryEnd, IsWriteFault, at_a_file, at_file, at_out}
use Rattle.fc_build.specs.declared.deliver.Delivery.{Delivery}
use Rattle.fc_build.specs.declared.deliver.Delivery.TheVariants as delivery
use Rattle.fc_build.specs.declared.prepare.Stop.{Stop}
use Rattle.fc_build.specs.declared.prepare.Stop.TheVariants as stop
use Rattle.fc_build.proofs.OneAnswer.{exclusive}
use Rattle.fc_replayed_sets.proofs.Ordered.{AreDistinctWords, built_names_differ}
use Rattle.fc_build.proofs.Standing.{stand}

-- A SET WITH A FAULT IS NOT ACCEPTED

-- the words ask for one thing at most
same_some : (a b : Asked) → Some a ≡ Some b → a ≡ b
same_some a b e = cc

asked_one : (o : Option Asked) (a b : Asked) → o ≡ Some a → o ≡ Some b → a ≡ b
asked_one o a b p q = same_some a b (sym p ∙ q)

asked_none : (o : Option Asked) (a : Asked) → o ≡ None → o ≡ Some a → ⊥
asked_none o a p q = let e : None ≡ Some a = sym p ∙ q in cc

-- an accepted set has no fault, and one with a fault is not accepted
no_fault : (words : List (List ℕ)) (held : Option FileMap) (r : Asked) (set : List Module) (P : Type 0) → IsAccepted words held r set
    → (a : Asked) → asked words ≡ Some a → IfSome held (λ m. (f : Fault) → FirstFault (files_in a) m f → P)
no_fault words None r set P input a asks = tt
no_fault words (Some m) r set P input a asks = λ f fault.
    let same : r ≡ a = asked_one (asked words) r a input.asks asks in
    absurd (exclusive (files_in a) m set f (subst (λ (x : Asked). Accepted (files_in x) m set) same input.accepted) fault)

-- WHERE NOTHING IS WRITTEN

-- an accepted set is not refused
pub stop_complete : (words : List (List ℕ)) (held : Option FileMap) (reads reads' : ℕ) (s : Stop) (status : ℕ) → status ≡ stop_status s → Stops words held reads reads' s
    → (a : Asked) → asked words ≡ Some a → (Rose reads reads' → ⊥) → IfSome held (λ m. (n : List Module) → Accepted (files_in a) m n → (status ≡ 0) ⊎ (status ≡ 5))
stop_complete words None reads reads' s status is why a asks stays = tt
stop_complete words (Some m) reads reads' (stop.Refused line) status is why a asks stays = λ n accepted.
    let same : why.first.request ≡ a = asked_one (asked words) why.first.request a why.first.asks asks in
    absurd (exclusive (files_in a) m n why.fault accepted (subst (λ (x : Asked). FirstFault (files_in x) m why.fault) same why.first.first))
stop_complete words (Some m) reads reads' stop.Usage status is why a asks stays = λ n accepted. absurd (asked_none (asked words) a why asks)
stop_complete words (Some m) reads reads' (stop.ReadFault name) status is why a asks stays = λ n accepted. absurd (stays why.rose)
stop_complete words (Some m) reads reads' stop.Memory status is why a asks stays = λ n accepted. inr is

-- WHERE SOMETHING IS WRITTEN

-- the names of what is written differ, as those of what was read do
written_differ : (set written : List Module) → AreFaithful (build_order set) written → AreDistinctWords (map name_of written)
written_differ set written faithful = subst AreDistinctWords (sym faithful.names) (built_names_differ set)

-- the files of a build stand
build_stands : (tuning : Tuning) (prefix : List ℕ) (set : List Module) (steps : List Step) (build : IsBuild tuning prefix (build_order set) steps) (held held' : Option FileMap)
    → Told held held' (λ m m'. m' ≡ put_all (all_files steps) m) → Told held held' (λ m m'. Stand tuning prefix build.outcome.written build.outcome.logs m')
build_stands tuning prefix set steps build None held' told = tt
build_stands tuning prefix set steps build (Some m) None told = told
build_stands tuning prefix set steps build (Some m) (Some m') told =
    let o = build.outcome in stand tuning prefix o.written o.logs steps build.are (written_differ set o.written o.faithful) m m' told

-- an explanation and Lint have no files to write
no_log_files : (ls : List Log) → all_files (map explained_step ls) ≡ []
no_log_files [] = refl
no_log_files (l ∷ ls) = no_log_files ls

lint_files : (ms : List Module) → all_files (map linted_step ms) ≡ []
lint_files [] = refl
lint_files (m ∷ ms) = lint_files ms

no_files : (order : Order) (ms : List Module) (steps : List Step) → IsReading order → AreSteps order ms steps → all_files steps ≡ []
no_files (Building tuning prefix) ms steps reading are = absurd reading
no_files (Explaining tuning) ms steps reading are = ap all_files are.are ∙ no_log_files are.outcome.logs
no_files Linting ms steps reading are = ap all_files are ∙ lint_files ms

leaves : (order : Order) (set : List Module) (steps : List Step) (are : AreSteps order (build_order set) steps) (held held' : Option FileMap)
    → Told held held' (λ m m'. m' ≡ put_all (all_files steps) m) → (all_files steps ≡ [] → held' ≡ held) → Leaves order (build_order set) steps are held held'
leaves (Building tuning prefix) set steps are held held' told same = build_stands tuning prefix set steps are held held' told
leaves (Explaining tuning) set steps are held held' told same = same (no_files (Explaining tuning) (build_order set) steps tt are)
leaves Linting set steps are held held' told same = same (no_files Linting (build_order set) steps tt are)

-- a set of which there is a product has no fault
pub product_has_no_fault : (words : List (List ℕ)) (held : Option FileMap) (steps : List Step) (P : Type 0) → IsProduct words held steps
    → (a : Asked) → asked words ≡ Some a → IfSome held (λ m. (f : Fault) → FirstFault (files_in a) m f → P)
product_has_no_fault words held steps P product a asks = no_fault words held product.request product.set P product.input a asks

-- what comes of a product
module _ (words : List (List ℕ)) (held mid held' : Option FileMap) (steps : List Step) (product : IsProduct words held steps) (same : mid ≡ held)
    (writes mid_writes writes' : ℕ) (same_writes : mid_writes ≡ writes) (out out' : Option (List ℕ)) (puts puts' : ℕ) where
  pub delivered : (d : Delivery) → Delivers d steps mid held' mid_writes writes' out out' puts puts' → Delivers d steps held held' writes writes' out out' puts puts'
  delivered d is =
      subst (λ (h : Option FileMap). Delivers d steps h held' writes writes' out out' puts puts') same
      (subst (λ (w : ℕ). Delivers d steps mid held' w writes' out out' puts puts') same_writes is)

  -- where nothing is to be written, nothing is
  nothing_written : (all_files steps ≡ [] → IsSameDevice mid held' mid_writes writes') → all_files steps ≡ [] → IsSameDevice held held' writes writes'
  nothing_written go none = let same_all = go none in (same_all.0 ∙ same, same_all.1 ∙ same_writes)

  pub delivered_done : (d : Delivery) → Delivers d steps mid held' mid_writes writes' out out' puts puts'
      → (all_files steps ≡ [] → IsSameDevice mid held' mid_writes writes') → delivery_status d ≡ 0 → IsDone words held held' out out'
  delivered_done delivery.Done is go e =
      let all = delivered delivery.Done is in
      record {
        steps = steps;
        product = product;
        files = all.0;
        lines = all.1;
        leaves = leaves product.request.order product.set steps product.are held held' all.0 (λ none. (nothing_written go none).0);
      }
  delivered_done (delivery.WriteFault name) is go e = absurd (omega (arith, e))
  delivered_done delivery.PutFault is go e = absurd (omega (arith, e))
  delivered_done delivery.Memory is go e = absurd (omega (arith, e))

  module _ (err err' : Option (List ℕ)) (faults faults' : ℕ) where
    pub delivered_write_fault : (d : Delivery) → Delivers d steps mid held' mid_writes writes' out out' puts puts' → TellsDelivery d faults faults' err err'
        → delivery_status d ≡ 4 → IsWriteFault words held held' writes writes' out out' puts puts' err err' faults faults'
    delivered_write_fault delivery.Done is says e = absurd (omega (arith, e))
    delivered_write_fault (delivery.WriteFault name) is says e =
        let all = delivered (delivery.WriteFault name) is in
        at_file steps name.now product all.0 all.1 all.2 all.3 all.4 says
    delivered_write_fault delivery.PutFault is says e =
        let all = delivered delivery.PutFault is in
        at_out steps product all.0 all.1 all.2 all.3 says
    delivered_write_fault delivery.Memory is says e = absurd (omega (arith, e))

    pub delivered_memory : (d : Delivery) → Delivers d steps mid held' mid_writes writes' out out' puts puts' → TellsDelivery d faults faults' err err'
        → delivery_status d ≡ 5 → IsMemoryEnd words held held' out out' err err' faults faults'
    delivered_memory delivery.Done is says e = absurd (omega (arith, e))
    delivered_memory (delivery.WriteFault name) is says e = absurd (omega (arith, e))
    delivered_memory delivery.PutFault is says e = absurd (omega (arith, e))
    delivered_memory delivery.Memory is says e =
        let all = delivered delivery.Memory is in
        record { stands = at_a_file steps product all.0 all.1 all.2; line = says }

  reads_alone : (a : Asked) → asked words ≡ Some a → IsReading a.order → all_files steps ≡ []
  reads_alone a asks reading =
      let one : product.request ≡ a = asked_one (asked words) product.request a product.input.asks asks in
      no_files product.request.order (build_order product.set) steps (subst (λ (x : Asked). IsReading x.order) (sym one) reading) product.are

  pub delivered_reading : (all_files steps ≡ [] → IsSameDevice mid held' mid_writes writes') → (a : Asked) → asked words ≡ Some a → IsReading a.order → IsSameDevice held held' writes writes'
  delivered_reading go a asks reading = nothing_written go (reads_alone a asks reading)
