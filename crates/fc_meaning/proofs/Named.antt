-- What a term shows depends on the definitions of the names that it reaches.
use Rattle.std.proofs.Common.{◌≡◌, ◌↔◌, ℕ, zero, suc, ℤ, List, [], Option, Some, None, option_map, refl, sym, ap, ◌∙◌, subst}
use Rattle.fc_syntax.specs.declared.ty.Name.{Name}
use Rattle.fc_syntax.specs.declared.expr.PrimOp.{PrimOp}
use Rattle.fc_syntax.specs.Primitives.{primitive_value}
use Rattle.fc_model.specs.Observing.{Observation, Anything, Number, Function, Built, Observations, NoneMore, OneMore, Sees, SeeAll}
use Rattle.fc_model.specs.Programs.{Mentions, AllMention, AltsMention}
use Rattle.fc_model.specs.Stepping.{Program, same_sort, same_sorts, Key, LitKey, ConKey, LamKey, Found, Missing, Bare, Fielded, matches, found, default_of, own, choose, enter}
use Rattle.fc_model.specs.Stepping.{Frame, AppTo, CaseOf, plug, fire, through, wrap, on_literals, next, Reaches}
use Rattle.fc_model.specs.Terms.{Sort, Lifted, Unlifted, Head, Default, OfLit, OfCon, Term, Lit, Var, Global, Fail, App, Lam, Let, Rec, Case, Con, Prim, Terms, Nil, Cons, Alts, NoAlt, Alt}
use Rattle.fc_model.specs.Terms.{count, binders, ren, ren_terms, ren_alts, shift, up, ups, sub, sub_terms, sub_alts, push, pushes}
use Rattle.fc_meaning.specs.Laws.{Keeps}
use Rattle.fc_meaning.proofs.Optional.{some_is, none_some, cond_some, cond_keeps}

module _ (N : Name → Type 0) where
  mutual
    unfolding ren

    mentions_ren : (r : ℕ → ℕ) (t : Term) → Mentions N t → Mentions N (ren r t)
    mentions_ren r (Lit z) w = w
    mentions_ren r (Var n) w = w
    mentions_ren r (Global x) w = w
    mentions_ren r Fail w = w
    mentions_ren r (App s f a) w = (mentions_ren _ f w.0, mentions_ren _ a w.1)
    mentions_ren r (Lam s b) w = mentions_ren _ b w
    mentions_ren r (Let s e b) w = (mentions_ren _ e w.0, mentions_ren _ b w.1)
    mentions_ren r (Rec ts b) w = (mentions_ren_terms _ ts w.0, mentions_ren _ b w.1)
    mentions_ren r (Case s e alts) w = (mentions_ren _ e w.0, mentions_ren_alts _ alts w.1)
    mentions_ren r (Con c ss ts) w = mentions_ren_terms _ ts w
    mentions_ren r (Prim o a b) w = (mentions_ren _ a w.0, mentions_ren _ b w.1)

    mentions_ren_terms : (r : ℕ → ℕ) (ts : Terms) → AllMention N ts → AllMention N (ren_terms r ts)
    mentions_ren_terms r Nil w = w
    mentions_ren_terms r (Cons t ts) w = (mentions_ren _ t w.0, mentions_ren_terms _ ts w.1)

    mentions_ren_alts : (r : ℕ → ℕ) (alts : Alts) → AltsMention N alts → AltsMention N (ren_alts r alts)
    mentions_ren_alts r NoAlt w = w
    mentions_ren_alts r (Alt h b alts) w = (mentions_ren _ b w.0, mentions_ren_alts _ alts w.1)

  EachMentions : (ℕ → Term) → Type 0
  EachMentions p = (n : ℕ) → Mentions N (p n)

  mentions_up : (p : ℕ → Term) → EachMentions p → EachMentions (up p)
  unfolding EachMentions up shift
  mentions_up p h zero = tt
  mentions_up p h (suc n) = mentions_ren suc (p n) (h n)

  mentions_ups : (k : ℕ) (p : ℕ → Term) → EachMentions p → EachMentions (ups k p)
  unfolding ups
  mentions_ups zero p h = h
  mentions_ups (suc k) p h = mentions_ups k (up p) (mentions_up p h)

  mutual
    unfolding sub EachMentions

    mentions_sub : (p : ℕ → Term) → EachMentions p → (t : Term) → Mentions N t → Mentions N (sub p t)
    mentions_sub p h (Lit z) w = w
    mentions_sub p h (Var n) w = h n
    mentions_sub p h (Global x) w = w
    mentions_sub p h Fail w = w
    mentions_sub p h (App s f a) w = (mentions_sub p h f w.0, mentions_sub p h a w.1)
    mentions_sub p h (Lam s b) w = mentions_sub (up p) (mentions_up p h) b w
    mentions_sub p h (Let s e b) w = (mentions_sub p h e w.0, mentions_sub (up p) (mentions_up p h) b w.1)
    mentions_sub p h (Rec ts b) w = (mentions_sub_terms (ups (count ts) p) (mentions_ups (count ts) p h) ts w.0, mentions_sub (ups (count ts) p) (mentions_ups (count ts) p h) b w.1)
    mentions_sub p h (Case s e alts) w = (mentions_sub p h e w.0, mentions_sub_alts p h alts w.1)
    mentions_sub p h (Con c ss ts) w = mentions_sub_terms p h ts w
    mentions_sub p h (Prim o a b) w = (mentions_sub p h a w.0, mentions_sub p h b w.1)

    mentions_sub_terms : (p : ℕ → Term) → EachMentions p → (ts : Terms) → AllMention N ts → AllMention N (sub_terms p ts)
    mentions_sub_terms p h Nil w = w
    mentions_sub_terms p h (Cons t ts) w = (mentions_sub p h t w.0, mentions_sub_terms p h ts w.1)

    mentions_sub_alts : (p : ℕ → Term) → EachMentions p → (alts : Alts) → AltsMention N alts → AltsMention N (sub_alts p alts)
    mentions_sub_alts p h NoAlt w = w
    mentions_sub_alts p h (Alt k b alts) w = (mentions_sub (ups (binders k) (up p)) (mentions_ups (binders k) (up p) (mentions_up p h)) b w.0, mentions_sub_alts p h alts w.1)

  mentions_push : (t : Term) (p : ℕ → Term) → Mentions N t → EachMentions p → EachMentions (push t p)
  unfolding EachMentions push
  mentions_push t p w h zero = w
  mentions_push t p w h (suc n) = h n

  mentions_pushes : (ts : Terms) (p : ℕ → Term) → AllMention N ts → EachMentions p → EachMentions (pushes ts p)
  unfolding pushes
  mentions_pushes Nil p w h = h
  mentions_pushes (Cons t ts) p w h = mentions_pushes ts (push t p) w.1 (mentions_push t p w.0 h)

  mentions_var : EachMentions Var
  unfolding EachMentions
  mentions_var n = tt

  mentions_wrap : (g ts : Terms) → AllMention N g → AllMention N ts → AllMention N (wrap g ts)
  unfolding wrap
  mentions_wrap g Nil w v = tt
  mentions_wrap g (Cons t ts) w v = ((w, v.0), mentions_wrap g ts w v.1)

  FoundMentions : Found → Type 0
  FoundMentions Missing = Unit {0}
  FoundMentions (Bare b) = Mentions N b
  FoundMentions (Fielded ss b) = Mentions N b

  mentions_found : (h : Head) (b : Term) → Mentions N b → FoundMentions (found h b)
  unfolding FoundMentions found
  mentions_found Default b w = w
  mentions_found (OfLit z) b w = w
  mentions_found (OfCon c ss) b w = w

  mentions_default : (alts : Alts) → AltsMention N alts → FoundMentions (default_of alts)
  unfolding FoundMentions default_of
  mentions_default NoAlt w = tt
  mentions_default (Alt Default b alts) w = w.0
  mentions_default (Alt (OfLit z) b alts) w = mentions_default alts w.1
  mentions_default (Alt (OfCon c ss) b alts) w = mentions_default alts w.1

  mentions_own : (k : Key) (d : Found) (alts : Alts) → FoundMentions d → AltsMention N alts → FoundMentions (own k alts d)
  unfolding own
  mentions_own k d NoAlt e w = e
  mentions_own k d (Alt h b alts) e w = cond_keeps FoundMentions (matches k h) (found h b) (own k alts d) (mentions_found h b w.0) (mentions_own k d alts e w.1)

  mentions_enter : (h u : Term) (ss : List Sort) (ts : Terms) (f : Found) → FoundMentions f → Mentions N h → AllMention N ts → enter h ss ts f ≡ Some u → Mentions N u
  unfolding enter FoundMentions
  mentions_enter h u ss ts Missing w v x e = absurd (none_some e)
  mentions_enter h u ss ts (Bare b) w v x e = subst (Mentions N) (some_is e) (mentions_sub _ (mentions_push h Var v mentions_var) b w)
  mentions_enter h u ss ts (Fielded rs b) w v x e = subst (Mentions N) (cond_some (same_sorts rs ss) _ u e).1 (mentions_sub _ (mentions_pushes ts _ x (mentions_push h Var v mentions_var)) b w)

  FrameMentions : Frame → Type 0
  FrameMentions (AppTo s a) = Mentions N a
  FrameMentions (CaseOf s alts) = AltsMention N alts

  mentions_choose : (k : Key) (alts : Alts) → AltsMention N alts → FoundMentions (choose k alts)
  unfolding choose
  mentions_choose k alts w = mentions_own k (default_of alts) alts (mentions_default alts w) w

  mentions_fire : (f : Frame) (h u : Term) → FrameMentions f → Mentions N h → fire f h ≡ Some u → Mentions N u
  unfolding fire FrameMentions
  mentions_fire (AppTo s a) (Lam r b) u w v e = subst (Mentions N) (cond_some (same_sort s r) _ u e).1 (mentions_sub _ (mentions_push a Var w mentions_var) b v)
  mentions_fire (AppTo s a) _ u w v e = absurd (none_some e)
  mentions_fire (CaseOf Lifted alts) (Lit z) u w v e = mentions_enter (Lit z) u [] Nil _ (mentions_choose (LitKey z) alts w) v tt e
  mentions_fire (CaseOf Unlifted alts) (Lit z) u w v e = mentions_enter (Lit z) u [] Nil _ (mentions_choose (LitKey z) alts w) v tt e
  mentions_fire (CaseOf Lifted alts) (Lam r b) u w v e = mentions_enter (Lam r b) u [] Nil _ (mentions_choose LamKey alts w) v tt e
  mentions_fire (CaseOf Lifted alts) (Con c ss ts) u w v e = mentions_enter (Con c ss ts) u ss ts _ (mentions_choose (ConKey c) alts w) v v e
  mentions_fire (CaseOf _ alts) _ u w v e = absurd (none_some e)

  mentions_plug : (f : Frame) (t : Term) → FrameMentions f → Mentions N t → Mentions N (plug f t)
  unfolding plug FrameMentions
  mentions_plug (AppTo s a) t w v = (v, w)
  mentions_plug (CaseOf s alts) t w v = (v, w)

  mentions_through : (f : Frame) (t u : Term) (o : Option Term) → FrameMentions f → Mentions N t → ((x : Term) → o ≡ Some x → Mentions N x) → through f t o ≡ Some u → Mentions N u
  unfolding through
  mentions_through f t u None w v h e = mentions_fire f t u w v e
  mentions_through f t u (Some x) w v h e = subst (Mentions N) (some_is e) (mentions_plug f x w (h x refl))

  mentions_literals : (o : PrimOp) (a b u : Term) → on_literals o a b ≡ Some u → Mentions N u
  unfolding on_literals
  mentions_literals o (Lit a) (Lit b) u e = go (primitive_value o a b) e
    where
      go : (v : Option ℤ) → option_map Lit v ≡ Some u → Mentions N u
      go None w = absurd (none_some w)
      go (Some z) w = subst (Mentions N) (some_is w) tt
  mentions_literals o (Lit a) _ u e = absurd (none_some e)
  mentions_literals o _ _ u e = absurd (none_some e)

  module _ (P Q : Program) (keep : Keeps N P Q) where
    pub mentions_next : (t u : Term) → Mentions N t → next P t ≡ Some u → Mentions N u
    unfolding next FrameMentions
    mentions_next (App s f a) u w e = mentions_through (AppTo s a) f u (next P f) w.1 w.0 (λ x q. mentions_next f x w.0 q) e
    mentions_next (Let s d b) u w e = subst (Mentions N) (some_is e) (mentions_sub _ (mentions_push d Var w.0 mentions_var) b w.1)
    mentions_next (Rec ts b) u w e = subst (Mentions N) (some_is e) (mentions_sub _ (mentions_pushes (wrap ts ts) Var (mentions_wrap ts ts w.0 w.0) mentions_var) b w.1)
    mentions_next (Case s d alts) u w e = mentions_through (CaseOf s alts) d u (next P d) w.1 w.0 (λ x q. mentions_next d x w.0 q) e
    mentions_next (Prim o a b) u w e = mentions_literals o a b u e
    mentions_next (Global x) u w e = keep.closed x w u e
    mentions_next _ u w e = absurd (none_some e)

    pub same_next : (t : Term) → Mentions N t → next P t ≡ next Q t
    unfolding next
    same_next (App s f a) w = ap (through (AppTo s a) f) (same_next f w.0)
    same_next (Case s d alts) w = ap (through (CaseOf s alts) d) (same_next d w.0)
    same_next (Global x) w = keep.same x w
    same_next _ w = refl

    mentions_reaches : (k : ℕ) (t h : Term) → Mentions N t → Reaches P t k h → Mentions N h × Reaches Q t k h
    mentions_reaches zero t h w r = (subst (Mentions N) r.0 w, r)
    mentions_reaches (suc k) t h w r = let q = mentions_reaches k r.0 h (mentions_next t r.0 w r.1) r.2 in (q.0, (r.0, sym (same_next t w) ∙ r.1, q.1))

    mutual
      pub sees_named : (o : Observation) (t : Term) → Mentions N t → Sees P t o → Sees Q t o
      sees_named Anything t w s = tt
      sees_named (Number z) t w s = (s.0, (mentions_reaches s.0 t (Lit z) w s.1).1)
      sees_named Function t w s = (s.0, s.1, s.2, (mentions_reaches s.0 t (Lam s.1 s.2) w s.3).1)
      sees_named (Built c os) t w s = let q = mentions_reaches s.0 t (Con c s.1 s.2) w s.3 in (s.0, s.1, s.2, q.1, see_all_named os s.2 q.0 s.4)

      see_all_named : (os : Observations) (ts : Terms) → AllMention N ts → SeeAll P ts os → SeeAll Q ts os
      see_all_named NoneMore Nil w s = tt
      see_all_named (OneMore o os) (Cons t ts) w s = (sees_named o t w.0 s.0, see_all_named os ts w.1 s.1)
      see_all_named NoneMore (Cons t ts) w s = s
      see_all_named (OneMore o os) Nil w s = s

-- the same the other way round
keeps_flip : (N : Name → Type 0) (P Q : Program) → Keeps N P Q → Keeps N Q P
keeps_flip N P Q k = record {
  same = λ x n. sym (k.same x n);
  closed = λ x n t e. k.closed x n t (k.same x n ∙ e);
}

pub sees_other : (N : Name → Type 0) (P Q : Program) → Keeps N P Q → (t : Term) → Mentions N t → (o : Observation) → Sees P t o ↔ Sees Q t o
sees_other N P Q k t w o = (sees_named N P Q k o t w, sees_named N Q P (keeps_flip N P Q k) o t w)
