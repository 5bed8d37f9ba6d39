-- The end of a signature, as it is read demand by demand.
use Rattle.std.proofs.Common.{◌≡◌, ◌≤◌, ◌<◌, arith, suc, Bool, true, false, List, [], ◌∷◌, ◌++◌, length, map, Some, refl, sym, ap, ◌∙◌}
use Rattle.std.proofs.lemmas.List.{map-append}
use Rattle.fc_syntax.specs.Demands.{Demand, NoDemands, Sig, SigOf}
use Rattle.fc_syntax.specs.declared.keyword.Keyword.TheVariants as word
use Rattle.fc_model.specs.Words.{Tok, Close, Key}
use Rattle.fc_model.specs.Grammar.{Part, Given, Steps, gives, ◌▸◌, here, more_demand, demand_row, AClose, ADemand, AnOpen, SignatureEnd}
use Rattle.fc_model.specs.Reading.{Got, Stuck, read_steps}
use Rattle.fc_lattice.specs.View.{demand_of, demands_of}
use Rattle.fc_lattice.specs.declared.demand.Demand as D
use Rattle.fc_read_parts.specs.declared.parts.Stop.{Stop}
use Rattle.fc_read_parts.specs.declared.parts.Stop.TheVariants as stop
use Rattle.fc_read_parts.specs.Reading.{GoesOn, StopsAt, Takes, first_tok}
use Rattle.fc_read_items.proofs.Others.{by_other}

-- demands in front of a signature
abbrev pub more_demands : List Demand → Sig → Sig
more_demands [] s = s
more_demands (d ∷ ds) s = more_demand d (more_demands ds s)

more_last : (ds : List Demand) (d : Demand) (s : Sig) → more_demands ds (more_demand d s) ≡ more_demands (ds ++ d ∷ []) s
more_last [] d s = refl
more_last (x ∷ ds) d s = ap (more_demand x) (more_last ds d s)

sig_is : (ds : List D.Demand) (diverges : Bool) → more_demands (map demand_of ds) (SigOf NoDemands diverges) ≡ SigOf (demands_of ds) diverges
sig_is [] diverges = refl
sig_is (d ∷ ds) diverges = ap (more_demand (demand_of d)) (sig_is ds diverges)

-- What the loop keeps: with the demands that were read, whatever is read of the rest goes on; and it has taken nothing but tokens ahead.
pub record SigSoFar (ts : List Tok) (ds : List Demand) (us : List Tok) : Type 0 where
  pub so : (q : Part) (f : Sig → Steps (Given q)) → read_steps ts (SignatureEnd ▸ f) ≡ read_steps us (SignatureEnd ▸ λ s. f (more_demands ds s))
  pub within : length us ≤ length ts

pub sig_start : (ts : List Tok) (ds : List Demand) → ds ≡ [] → SigSoFar ts ds ts
sig_start ts ds e = record { so = λ q f. ap (λ g. read_steps ts (SignatureEnd ▸ g)) (λ i s. f (ap (λ xs. more_demands xs s) (sym e) i)); within = omega arith }

-- what goes on where members may be repeated begins with no closing bracket
not_closed : (ts : List Tok) → GoesOn ts → first_tok ts ≡ Some Close → ⊥
not_closed [] g e = cc
not_closed (Close ∷ ts) g e = let h : Got here ts ≡ Stuck (suc (length ts)) = g AnOpen AnOpen (λ x. gives here) in cc
not_closed (t ∷ ts) g e = cc

-- where neither the closing bracket nor `diverges` comes first, a demand does
end_goes : (ts : List Tok) → (first_tok ts ≡ Some Close → ⊥) → (first_tok ts ≡ Some (Key word.Diverges) → ⊥) → (q : Part) (f : Sig → Steps (Given q))
    → read_steps ts (SignatureEnd ▸ f) ≡ read_steps ts (ADemand ▸ λ d. SignatureEnd ▸ λ s. f (more_demand d s))
end_goes [] n m q f = refl
end_goes (Close ∷ ts) n m q f = absurd (n refl)
end_goes (Key word.Diverges ∷ ts) n m q f = absurd (m refl)
end_goes (t ∷ ts) n m q f = by_other SignatureEnd q (λ d. SignatureEnd ▸ λ s. gives (more_demand d s)) f ts (demand_row t)

-- a demand comes first in the tokens `us`, which are still ahead as `xs`
abbrev pub DemandAhead : (us ws xs : List Tok) → Type 0
DemandAhead us ws xs = (GoesOn us × (ws ≡ us)) × ((first_tok ws ≡ Some (Key word.Diverges) → ⊥) × (xs ≡ ws))

demand_goes : (us ws xs : List Tok) → DemandAhead us ws xs → (q : Part) (f : Sig → Steps (Given q))
    → read_steps us (SignatureEnd ▸ f) ≡ read_steps xs (ADemand ▸ λ d. SignatureEnd ▸ λ s. f (more_demand d s))
demand_goes us ws xs h q f =
    end_goes us (not_closed us h.0.0) (λ e. h.1.0 (ap first_tok h.0.1 ∙ e)) q f
    ∙ ap (λ r. read_steps r (ADemand ▸ λ d. SignatureEnd ▸ λ s. f (more_demand d s))) (sym (h.1.1 ∙ h.0.1))

pub sig_more : (ts us ws xs vs : List Tok) (old new : List D.Demand) (d : D.Demand) → SigSoFar ts (map demand_of old) us → DemandAhead us ws xs → Takes ADemand xs (demand_of d) vs
    → length vs < length xs → new ≡ old ++ d ∷ [] → SigSoFar ts (map demand_of new) vs
sig_more ts us ws xs vs old new d s h a shorter e =
    let ds = map demand_of old in
    let is : map demand_of new ≡ ds ++ demand_of d ∷ [] = ap (map demand_of) e ∙ map-append demand_of old (d ∷ []) in
    record {
      so = λ q f. s.so q f ∙ demand_goes us ws xs h q (λ r. f (more_demands ds r)) ∙ a q (λ x. SignatureEnd ▸ λ r. f (more_demands ds (more_demand x r)))
          ∙ ap (λ g. read_steps vs (SignatureEnd ▸ g)) (λ i r. f ((more_last ds (demand_of d) r ∙ ap (λ zs. more_demands zs r) (sym is)) i));
      within = omega (arith, s.within, shorter, ap length h.1.1, ap length h.0.1);
    }

-- how the loop ends: behind the closing bracket, behind `diverges` and that, or where a demand stops
pub sig_closed : (ts us vs : List Tok) (ds : List D.Demand) → SigSoFar ts (map demand_of ds) us → us ≡ Close ∷ vs → Takes SignatureEnd ts (SigOf (demands_of ds) false) vs
sig_closed ts us vs ds s e = λ q f.
    s.so q f ∙ ap (λ r. read_steps r (SignatureEnd ▸ λ x. f (more_demands (map demand_of ds) x))) e ∙ ap (λ x. read_steps vs (f x)) (sig_is ds false)

pub sig_diverges : (ts us ws xs vs : List Tok) (ds : List D.Demand) → SigSoFar ts (map demand_of ds) us → GoesOn us × (ws ≡ us) → ws ≡ Key word.Diverges ∷ xs → Takes AClose xs here vs
    → Takes SignatureEnd ts (SigOf (demands_of ds) true) vs
sig_diverges ts us ws xs vs ds s on e a = λ q f.
    s.so q f ∙ ap (λ r. read_steps r (SignatureEnd ▸ λ x. f (more_demands (map demand_of ds) x))) (sym on.1 ∙ e)
    ∙ a q (λ y. f (more_demands (map demand_of ds) (SigOf NoDemands true))) ∙ ap (λ x. read_steps vs (f x)) (sig_is ds true)

pub sig_stops : (ts us ws xs : List Tok) (ds : List Demand) (h : Stop) → SigSoFar ts ds us → GoesOn us × (ws ≡ us) → (first_tok ws ≡ Some (Key word.Diverges) → ⊥) × (xs ≡ ws) → StopsAt ADemand xs h
    → StopsAt SignatureEnd ts h
sig_stops ts us ws xs ds stop.Memory s on n d = tt
sig_stops ts us ws xs ds (stop.Form k) s on n d = λ q f. s.so q f ∙ demand_goes us ws xs (on, n) q (λ r. f (more_demands ds r)) ∙ d q (λ x. SignatureEnd ▸ λ r. f (more_demands ds (more_demand x r)))
