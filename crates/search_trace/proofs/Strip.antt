-- Lines that close branches close them also where what rests on a mark is taken away, if no branching and no clash
-- rests on it.
use Rattle.std.proofs.Common.{◌≡◌, ℕ, ◌&&◌, ◌||◌, Bool, true, false, not, cond, List, [], ◌∷◌, ◌++◌, map, Option, Some}
use Rattle.std.proofs.Common.{None, refl, ap, ◌∙◌, sym, subst, inl, inr}
use Rattle.std.specs.List.{list_any, list_all, filter, range_with_len}
use Rattle.std.specs.Option.{option_and_then, option_map}
use Rattle.std.specs.FinSet as sets
use Rattle.std.proofs.lemmas.Bool.{cases_Bool, and_parts, and_from, or_cases, or_left, or_right, not-true}
use Rattle.std.proofs.lemmas.List.Folds.{list_any-append}
use Rattle.calculus_specs.specs.Concept.{Concept}
use Rattle.refutation_tree.specs.NumberSets.{NumberSet}
use Rattle.calculus_specs.specs.State.{fresh_facts}
use Rattle.calculus_specs.specs.Rules.{Question, knows_some_from, when}
use Rattle.search_trace.specs.Premises.{Added, more_facts, more_nodes, Rule, rule_of, holds, is_new, is_single}
use Rattle.search_trace.specs.Premises.{is_branching, is_clash}
use Rattle.search_trace.specs.Leaves.{leaves}
use Rattle.search_trace.specs.Noted.{Marked, marked, is_within, within, items, Noted, known, known_within, noted_added}
use Rattle.search_trace.specs.Noted.{NotedLine, marks_given, noted_by, noted_children}
use Rattle.search_trace.specs.Among.{IsAmong, IsPart, Keeps, AllKeep, IsDownward}
use Rattle.search_trace.proofs.Among.{any_implies, any_filter, any_map, any_within, premises_stay}
use Rattle.search_trace.proofs.Single.{when_some, HasOneChild, has_one}

module _ (may_stay : NumberSet → Bool) where
  abbrev stays : {A : Type 0} → Marked A → Bool
  stays m = may_stay m.marks

  -- ---- what rests on few marks

  within_stays : {A : Type 0} → IsDownward may_stay → (u : NumberSet) → may_stay u ≡ true
      → (olds news : List (Marked A)) → IsAmong (filter stays olds) news
      → IsAmong (within u olds) (within u news)
  within_stays down u ok olds news h p any =
      let q : Marked _ → Bool = λ m. is_within u m && p m.item in
      let old : list_any q olds ≡ true = sym (any_within u p olds) ∙ any in
      let free : list_any (λ m. stays m && q m) olds ≡ true =
      any_implies q (λ m. stays m && q m)
      (λ m g. and_from (stays m) (q m) (down m.marks u (and_parts (is_within u m) (p m.item) g).0 ok) g) olds old in
      any_within u p news ∙ h q (any_filter q stays olds ∙ free)

  -- ---- what a line adds

  more_stays : {A : Type 0} → (olds news zs : List (Marked A)) → IsAmong (filter stays olds) news
      → IsAmong (filter stays (olds ++ zs)) (news ++ zs)
  more_stays olds news zs h p any =
      let q : Marked _ → Bool = λ m. stays m && p m in
      list_any-append p news zs
      ∙ (elim (or_cases (list_any q olds) (list_any q zs)
      (sym (any_filter p stays (olds ++ zs) ∙ list_any-append q olds zs) ∙ any)) [
        | inl a ↦ or_left (list_any p news) (list_any p zs) (h p (any_filter p stays olds ∙ a))
        | inr a ↦
            or_right (list_any p news) (list_any p zs) (any_implies q p (λ m g. (and_parts (stays m) (p m) g).1) zs a)
      ])

  more_items : {A : Type 0} → (olds news zs : List (Marked A)) → IsAmong (items news) (items olds)
      → IsAmong (items (news ++ zs)) (items (olds ++ zs))
  more_items olds news zs h p any =
      let q : Marked _ → Bool = λ m. p m.item in
      any_map (λ m. m.item) p (olds ++ zs) ∙ list_any-append q olds zs
      ∙ (elim (or_cases (list_any q news) (list_any q zs)
      (sym (any_map (λ m. m.item) p (news ++ zs) ∙ list_any-append q news zs) ∙ any)) [
        | inl a ↦
            or_left (list_any q olds) (list_any q zs)
            (sym (any_map (λ m. m.item) p olds) ∙ h p (any_map (λ m. m.item) p news ∙ a))
        | inr a ↦ or_right (list_any q olds) (list_any q zs) a
      ])

  added_keeps : (u : NumberSet) (old new : Noted) (a : Added) → Keeps may_stay old new
      → Keeps may_stay (noted_added u old a) (noted_added u new a)
  added_keeps u old new (more_facts fs) k = record {
    nodes = k.nodes;
    facts = more_stays old.facts new.facts (map (marked u) fs) k.facts;
    no_more = k.no_more;
  }
  added_keeps u old new (more_nodes x s e y n) k = record {
    nodes = more_stays old.nodes new.nodes (map (marked u) (range_with_len y n)) k.nodes;
    facts = more_stays old.facts new.facts (map (marked u) (fresh_facts x s e y n)) k.facts;
    no_more = more_items old.nodes new.nodes (map (marked u) (range_with_len y n)) k.no_more;
  }

  pub all_added_keep : (u : NumberSet) (old new : Noted) (added : List Added) → Keeps may_stay old new
      → AllKeep may_stay (map (noted_added u old) added) (map (noted_added u new) added)
  all_added_keep u old new [] k = tt
  all_added_keep u old new (a ∷ added) k = (added_keeps u old new a k, all_added_keep u old new added k)

  -- ---- what a line adds that may not stay

  none_stays : {A : Type 0} → (u : NumberSet) → may_stay u ≡ false → (q : Marked A → Bool) (zs : List A)
      → list_any (λ m. stays m && q m) (map (marked u) zs) ≡ false
  none_stays u out q [] = refl
  none_stays u out q (z ∷ zs) =
      ap (λ (b : Bool). (b && q (marked u z)) || list_any (λ m. stays m && q m) (map (marked u) zs)) out
      ∙ none_stays u out q zs

  less_stays : {A : Type 0} → (u : NumberSet) → may_stay u ≡ false → (olds news : List (Marked A)) (zs : List A)
      → IsAmong (filter stays olds) news → IsAmong (filter stays (olds ++ map (marked u) zs)) news
  less_stays u out olds news zs h p any =
      let q : Marked _ → Bool = λ m. stays m && p m in
      let more = map (marked u) zs in
      elim (or_cases (list_any q olds) (list_any q more)
      (sym (any_filter p stays (olds ++ more) ∙ list_any-append q olds more) ∙ any)) [
        | inl a ↦ h p (any_filter p stays olds ∙ a)
        | inr a ↦ let f = none_stays u out p zs in cc
      ]

  items_before : {A : Type 0} → (olds news zs : List (Marked A)) → IsAmong (items news) (items olds)
      → IsAmong (items news) (items (olds ++ zs))
  items_before olds news zs h p any =
      let q : Marked _ → Bool = λ m. p m.item in
      any_map (λ m. m.item) p (olds ++ zs) ∙ list_any-append q olds zs
      ∙ or_left (list_any q olds) (list_any q zs) (sym (any_map (λ m. m.item) p olds) ∙ h p any)

  pub dropped_keeps : (u : NumberSet) → may_stay u ≡ false → (old new : Noted) (a : Added) → Keeps may_stay old new
      → Keeps may_stay (noted_added u old a) new
  dropped_keeps u out old new (more_facts fs) k =
      record { nodes = k.nodes; facts = less_stays u out old.facts new.facts fs k.facts; no_more = k.no_more }
  dropped_keeps u out old new (more_nodes x s e y n) k = record {
    nodes = less_stays u out old.nodes new.nodes (range_with_len y n) k.nodes;
    facts = less_stays u out old.facts new.facts (fresh_facts x s e y n) k.facts;
    no_more = items_before old.nodes new.nodes (map (marked u) (range_with_len y n)) k.no_more;
  }

  -- ---- new nodes

  not_from : (a b : Bool) → (b ≡ true → a ≡ true) → not a ≡ true → not b ≡ true
  not_from a true h g = let e = h refl in let f = not-true a g in cc
  not_from a false h g = refl

  new_stays : (old new : Noted) → IsAmong (items new.nodes) (items old.nodes) → (a : Added)
      → is_new (known old) a ≡ true → is_new (known new) a ≡ true
  new_stays old new no_more (more_facts fs) h = refl
  new_stays old new no_more (more_nodes x s e y n) h =
      not_from (knows_some_from (known old) y n) (knows_some_from (known new) y n) (no_more _) h

  all_new_stay : (old new : Noted) → IsAmong (items new.nodes) (items old.nodes) → (added : List Added)
      → list_all (is_new (known old)) added ≡ true → list_all (is_new (known new)) added ≡ true
  all_new_stay old new no_more [] h = refl
  all_new_stay old new no_more (a ∷ added) h =
      let b = and_parts (is_new (known old) a) (list_all (is_new (known old)) added) h in
      and_from (is_new (known new) a) (list_all (is_new (known new)) added) (new_stays old new no_more a b.0)
      (all_new_stay old new no_more added b.1)

-- ---- steps and runs

pub keep_append : (may_stay : NumberSet → Bool) (os ps ns qs : List Noted) → AllKeep may_stay os ns
    → AllKeep may_stay ps qs → AllKeep may_stay (os ++ ps) (ns ++ qs)
keep_append may_stay [] ps [] qs h g = g
keep_append may_stay [] ps (n ∷ ns) qs h g = absurd h
keep_append may_stay (o ∷ os) ps [] qs h g = absurd h
keep_append may_stay (o ∷ os) ps (n ∷ ns) qs h g = (h.0, keep_append may_stay os ps ns qs h.1 g)

pub when_true : {A : Type 0} → (b : Bool) (o : Option A) → b ≡ true → when b o ≡ o
when_true b o h = ap (λ (c : Bool). when c o) h

some_eq : {A : Type 0} → (a b : A) → Some a ≡ Some b → a ≡ b
some_eq a b h = cc

module _ (q : Question) (concept : ℕ → Option Concept) (may_stay : NumberSet → Bool) (down : IsDownward may_stay) where
  abbrev step : Noted → NotedLine → Option (List Noted)
  step = noted_children q concept

  pub record Kept (olds : List Noted) (o : Option (List Noted)) : Type 0 where
    pub news : List Noted
    pub are : o ≡ Some news
    pub keep : AllKeep may_stay olds news

  by_keeps : (old new : Noted) (l : NotedLine) (r : Option Rule) → may_stay l.marks ≡ true → Keeps may_stay old new
      → (kids : List Noted) → noted_by q concept old l r ≡ Some kids → Kept kids (noted_by q concept new l r)
  by_keeps old new l None ok k kids h = cc
  by_keeps old new l (Some r) ok k kids h =
      let u = l.marks in
      let g = marks_given l in
      let premises = list_all (holds q.theory (known_within u old)) r.premises in
      let fresh = list_all (is_new (known old)) r.children in
      let a = when_some premises (when fresh (Some (map (noted_added g old) r.children))) kids h in
      let b = when_some fresh (Some (map (noted_added g old) r.children)) kids a.1 in
      let part : IsPart (known_within u old) (known_within u new) = record {
        nodes = within_stays may_stay down u ok old.nodes new.nodes k.nodes;
        facts = within_stays may_stay down u ok old.facts new.facts k.facts;
      } in
      let they_hold = premises_stay q.theory (known_within u old) (known_within u new) part r.premises a.0 in
      let are_new = all_new_stay may_stay old new k.no_more r.children b.0 in
      record {
        news = map (noted_added g new) r.children;
        are =
            when_true (list_all (holds q.theory (known_within u new)) r.premises)
            (when (list_all (is_new (known new)) r.children) (Some (map (noted_added g new) r.children))) they_hold
            ∙ when_true (list_all (is_new (known new)) r.children) (Some (map (noted_added g new) r.children)) are_new;
        keep =
            subst (λ (ks : List Noted). AllKeep may_stay ks (map (noted_added g new) r.children))
            (some_eq (map (noted_added g old) r.children) kids b.1) (all_added_keep may_stay g old new r.children k);
      }

  pub step_keeps : (old new : Noted) (l : NotedLine) → may_stay l.marks ≡ true → Keeps may_stay old new
      → (kids : List Noted) → step old l ≡ Some kids → Kept kids (step new l)
  step_keeps old new l ok k kids h = by_keeps old new l (rule_of q concept l.line) ok k kids h

  -- a line with one child that may not stay
  by_dropped : (old new : Noted) (l : NotedLine) (r : Option Rule) → may_stay l.marks ≡ false → marks_given l ≡ l.marks
      → HasOneChild r → Keeps may_stay old new
      → (kids : List Noted) → noted_by q concept old l r ≡ Some kids → AllKeep may_stay kids (new ∷ [])
  by_dropped old new l None out given one k kids h = cc
  by_dropped old new l (Some r) out given one k kids h =
      let u = l.marks in
      let g = marks_given l in
      let premises = list_all (holds q.theory (known_within u old)) r.premises in
      let fresh = list_all (is_new (known old)) r.children in
      let a = when_some premises (when fresh (Some (map (noted_added g old) r.children))) kids h in
      let b = when_some fresh (Some (map (noted_added g old) r.children)) kids a.1 in
      let e : noted_added u old one.0 ∷ [] ≡ kids =
      ap (λ (v : NumberSet). noted_added v old one.0 ∷ []) (sym given) ∙ ap (map (noted_added g old)) (sym one.1)
      ∙ some_eq (map (noted_added g old) r.children) kids b.1 in
      subst (λ (ks : List Noted). AllKeep may_stay ks (new ∷ [])) e (dropped_keeps may_stay u out old new one.0 k, tt)

  abbrev stay : List NotedLine → List NotedLine
  stay ls = filter (λ l. may_stay l.marks) ls

  -- a branching or a clash stays
  abbrev pub ends_stay : NotedLine → Bool
  ends_stay l = is_single l.line || may_stay l.marks

  single_given : (l : NotedLine) → is_single l.line ≡ true → marks_given l ≡ l.marks
  single_given l h = elim (cases_Bool (is_branching l.line)) [
    | inl b ↦
        let t = not-true (is_branching l.line) (and_parts (not (is_branching l.line)) (not (is_clash l.line)) h).0 in cc
    | inr b ↦ ap (λ (c : Bool). cond c (sets.insert l.marks l.number) l.marks) b
  ]

  abbrev pub Rest : List NotedLine → List Noted → Type 0
  Rest ls outs = (olds news : List Noted) → AllKeep may_stay olds news → leaves step olds ls ≡ Some outs
      → Kept outs (leaves step news (stay ls))

  abbrev after_kids : List NotedLine → List Noted → Option (List Noted) → Option (List Noted)
  after_kids ls olds r =
      option_and_then (λ (left : List Noted). leaves step left ls) (option_map (λ (new : List Noted). new ++ olds) r)

  on_kept : (o n : Noted) (olds news outs : List Noted) (l : NotedLine) (ls : List NotedLine) → may_stay l.marks ≡ true
      → Keeps may_stay o n → AllKeep may_stay olds news
      → (r : Option (List Noted)) → step o l ≡ r → Rest ls outs → after_kids ls olds r ≡ Some outs
      → Kept outs (leaves step (n ∷ news) (l ∷ stay ls))
  on_kept o n olds news outs l ls ok k ks None e rest h = cc
  on_kept o n olds news outs l ls ok k ks (Some kids) e rest h =
      let s = step_keeps o n l ok k kids e in
      let r = rest (kids ++ olds) (s.news ++ news) (keep_append may_stay kids olds s.news news s.keep ks) h in
      record { news = r.news; are = ap (after_kids (stay ls) news) s.are ∙ r.are; keep = r.keep }

  on_dropped : (o n : Noted) (olds news outs : List Noted) (l : NotedLine) (ls : List NotedLine)
      → may_stay l.marks ≡ false → is_single l.line ≡ true → Keeps may_stay o n → AllKeep may_stay olds news
      → (r : Option (List Noted)) → step o l ≡ r → Rest ls outs → after_kids ls olds r ≡ Some outs
      → Kept outs (leaves step (n ∷ news) (stay ls))
  on_dropped o n olds news outs l ls out single k ks None e rest h = cc
  on_dropped o n olds news outs l ls out single k ks (Some kids) e rest h =
      let one =
      by_dropped o n l (rule_of q concept l.line) out (single_given l single) (has_one q concept l.line single) k kids
      e in
      rest (kids ++ olds) (n ∷ news) (keep_append may_stay kids olds (n ∷ []) news one ks) h

  or_out : (a b : Bool) → (a || b) ≡ true → b ≡ false → a ≡ true
  or_out true b h g = refl
  or_out false b h g = cc

  pub runs_keep : (ls : List NotedLine) (outs : List Noted) → list_all ends_stay ls ≡ true → (olds news : List Noted)
      → AllKeep may_stay olds news
      → leaves step olds ls ≡ Some outs → Kept outs (leaves step news (stay ls))
  runs_keep [] outs ends olds news k h = record {
    news = news;
    are = refl;
    keep = subst (λ (ks : List Noted). AllKeep may_stay ks news) (some_eq olds outs h) k;
  }
  runs_keep (l ∷ ls) outs ends [] news k h = cc
  runs_keep (l ∷ ls) outs ends (o ∷ olds) [] k h = absurd k
  runs_keep (l ∷ ls) outs ends (o ∷ olds) (n ∷ news) k h =
      let e = and_parts (ends_stay l) (list_all ends_stay ls) ends in
      elim (cases_Bool (may_stay l.marks)) [
        | inl ok ↦
            subst (λ (xs : List NotedLine). Kept outs (leaves step (n ∷ news) xs))
            (ap (λ (b : Bool). cond b (l ∷ stay ls) (stay ls)) (sym ok))
            (on_kept o n olds news outs l ls ok k.0 k.1 (step o l) refl (runs_keep ls outs e.1) h)
        | inr out ↦
            subst (λ (xs : List NotedLine). Kept outs (leaves step (n ∷ news) xs))
            (ap (λ (b : Bool). cond b (l ∷ stay ls) (stay ls)) (sym out))
            (on_dropped o n olds news outs l ls out (or_out (is_single l.line) (may_stay l.marks) e.0 out) k.0 k.1
            (step o l) refl (runs_keep ls outs e.1) h)
      ]
