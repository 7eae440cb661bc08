-- The links of what is kept lead to representatives.
use Rattle.std.proofs.Common.{◌≡◌, ℕ, ◌+◌, ◌<◌, ◌≤◌, ◌≢◌, min, max, Bool, true, false, List, [], ◌∷◌, ◌++◌, length}
use Rattle.std.proofs.Common.{take, get_or, refl, ap, sym, subst, ◌∙◌, arith, inl, inr, get_or-set_same}
use Rattle.std.proofs.Common.{get_or-set_other}
use Rattle.std.specs.Prelude.{◌==◌, ◌&&◌, ◌||◌, nat_lt, if◌then◌else◌}
use Rattle.std.proofs.lemmas.Bool.{cases_eq, cases_lt, eq-eqb, ne_eqb, and_parts, eqb-true, ltb-true, lt-ltb, le-ltb}
use Rattle.std.proofs.lemmas.Bool.Decides.{nat_tests}
use Rattle.std.proofs.lemmas.List.{length-set, length-append, take-append-le}
use Rattle.std.proofs.Math.Seq.{get_or-append_seam, take-append_seam}
use Rattle.std.proofs.Math.ListN.{get_or-append}
use Rattle.std.proofs.Math.Bool.{and-or_distrib_left}
use Rattle.calculus_specs.specs.declared.facts.Fact.{Fact}
use Rattle.calculus_specs.specs.declared.facts.Fact.TheVariants.{Has, Edge, Apart, Same}
use Rattle.calculus_specs.specs.Joins.{merged, rep_after, rep_from, rep}
use Rattle.calculus_specs.specs.State.{node_count_from}
use Rattle.fact_tree.specs.Kept.{Lists, Kept, new_lists, having, leading, parted, absorbing, bare, lists_at, changed_at}
use Rattle.fact_tree.specs.Kept.{grown, made, linked, after, kept_from, kept_of, empty}
use Rattle.fact_tree.specs.Entries.{Leads, IsLinked, IsFit, AreFit, is_in}
use Rattle.fact_tree.proofs.Each.{length-set_each, set_each-in, set_each-other}
use Rattle.fact_tree.proofs.Content.{any-append}

-- ---- one fact more

pub kept_from-snoc : (m : ℕ → ℕ) (fs : List (Fact ℕ)) (f : Fact ℕ) (k : Kept)
    → kept_from m (fs ++ f ∷ []) k ≡ after (rep_from m fs) f (kept_from m fs k)
kept_from-snoc m [] f k = refl
kept_from-snoc m (g ∷ fs) f k = kept_from-snoc (rep_after m g) fs f (after m g k)

pub kept_of-snoc : (first : ℕ) (fs : List (Fact ℕ)) (f : Fact ℕ)
    → kept_of first (fs ++ f ∷ []) ≡ after (rep fs) f (kept_of first fs)
kept_of-snoc first fs f = kept_from-snoc (λ x. x) fs f (empty first)

abbrev pub count_after : Fact ℕ → ℕ → ℕ
count_after (Has y c) n = n
count_after (Edge r y z) n = max (z + 1) n
count_after (Apart y z) n = n
count_after (Same y z) n = n

pub node_count-snoc : (first : ℕ) (fs : List (Fact ℕ)) (f : Fact ℕ)
    → node_count_from first (fs ++ f ∷ []) ≡ count_after f (node_count_from first fs)
node_count-snoc first [] (Has y c) = refl
node_count-snoc first [] (Edge r y z) = refl
node_count-snoc first [] (Apart y z) = refl
node_count-snoc first [] (Same y z) = refl
node_count-snoc first (Has v d ∷ fs) f = node_count-snoc first fs f
node_count-snoc first (Apart v w ∷ fs) f = node_count-snoc first fs f
node_count-snoc first (Same v w ∷ fs) f = node_count-snoc first fs f
node_count-snoc first (Edge s v w ∷ fs) f =
    ap (max (w + 1)) (node_count-snoc first fs f) ∙ swap f (w + 1) (node_count_from first fs)
  where
    swap : (g : Fact ℕ) (a n : ℕ) → max a (count_after g n) ≡ count_after g (max a n)
    swap (Has y c) a n = refl
    swap (Edge r y z) a n = omega arith
    swap (Apart y z) a n = refl
    swap (Same y z) a n = refl

-- ---- facts that speak of nodes

pub fit_before : (first : ℕ) (fs gs : List (Fact ℕ)) → AreFit first (fs ++ gs) → AreFit first fs
fit_before first fs gs fit = record {
  each = λ p d lt. subst (λ (f : Fact ℕ). IsFit (node_count_from first (take p fs)) f) (get_or-append fs gs d p lt)
      (subst (λ (us : List (Fact ℕ)). IsFit (node_count_from first us) (get_or (fs ++ gs) p d))
      (take-append-le p fs gs (omega (arith, lt))) (fit.each p d (omega (arith, lt, length-append fs gs))));
}

pub fit_last : (first : ℕ) (fs : List (Fact ℕ)) (f : Fact ℕ) → AreFit first (fs ++ f ∷ [])
    → IsFit (node_count_from first fs) f
fit_last first fs f fit =
    subst (λ (g : Fact ℕ). IsFit (node_count_from first fs) g) (get_or-append_seam fs f [] f)
    (subst (λ (us : List (Fact ℕ)). IsFit (node_count_from first us) (get_or (fs ++ f ∷ []) (length fs) f))
    (take-append_seam fs (f ∷ []))
    (fit.each (length fs) f (omega (arith, length-append fs (f ∷ [])))))

pub fit_more : (first : ℕ) (fs : List (Fact ℕ)) (f : Fact ℕ) → AreFit first fs → IsFit (node_count_from first fs) f
    → AreFit first (fs ++ f ∷ [])
fit_more first fs f fit is = record {
  each = λ p d lt. elim (cases_lt p (length fs)) [
    | inl before ↦
        subst (λ (g : Fact ℕ). IsFit (node_count_from first (take p (fs ++ f ∷ []))) g)
        (sym (get_or-append fs (f ∷ []) d p before))
        (subst (λ (us : List (Fact ℕ)). IsFit (node_count_from first us) (get_or fs p d))
        (sym (take-append-le p fs (f ∷ []) (omega (arith, before)))) (fit.each p d before))
    | inr behind ↦
        let at : length fs ≡ p = omega (arith, behind, lt, length-append fs (f ∷ [])) in
        subst (λ (n : ℕ). IsFit (node_count_from first (take n (fs ++ f ∷ []))) (get_or (fs ++ f ∷ []) n d)) at
        (subst (λ (g : Fact ℕ). IsFit (node_count_from first (take (length fs) (fs ++ f ∷ []))) g)
        (sym (get_or-append_seam fs f [] d))
        (subst (λ (us : List (Fact ℕ)). IsFit (node_count_from first us) f) (sym (take-append_seam fs (f ∷ []))) is))
  ];
}

-- ---- lists of members

members_changed : (k : Kept) (at : ℕ) (change : Lists → Lists) → ((n : Lists) → (change n).members ≡ n.members)
    → (x : ℕ) → x < length k.nodes
    → (lists_at (changed_at at change k) x).members ≡ (lists_at k x).members
members_changed k at change same x lt = elim (cases_eq x at) [
  | inl e ↦
      ap (λ (n : ℕ). (lists_at (changed_at at change k) n).members) e
      ∙ ap (λ (n : Lists). n.members) (get_or-set_same k.nodes at (change (lists_at k at)) bare (omega (arith, lt, e)))
      ∙ same (lists_at k at) ∙ ap (λ (n : ℕ). (lists_at k n).members) (sym e)
  | inr other ↦ ap (λ (n : Lists). n.members) (get_or-set_other k.nodes at x (change (lists_at k at)) bare other)
]

-- a list that begins with r goes on beginning with it
head_stays : (xs ys : List ℕ) (r : ℕ) → ((d : ℕ) → get_or xs 0 d ≡ r) → (d : ℕ) → get_or (xs ++ ys) 0 d ≡ r
head_stays [] ys r h d = absurd (omega (arith, h 0, h 1))
head_stays (x ∷ xs) ys r h d = h d

-- whether a node x below n has the representative r
abbrev is_one : ℕ → ℕ → ℕ → ℕ → Bool
is_one n x r a = nat_lt x n && a == r

one_more : (n n' x r a : ℕ) → n' ≡ n + 1 → r < n → (x ≡ n → a ≡ n) → is_one n x r a ≡ is_one n' x r a
one_more n n' x r a more lt own = elim (cases_eq x n) [
  | inl e ↦
      let at = own e in
      ap (λ (b : Bool). b && a == r) (le-ltb x n (omega (arith, e)))
      ∙ sym (ap (λ (b : Bool). nat_lt x n' && b) (ne_eqb a r (λ h. absurd (omega (arith, h, at, lt))))
      ∙ and_false (nat_lt x n'))
  | inr other ↦ ap (λ (b : Bool). b && a == r) (elim (cases_lt x n) [
    | inl less ↦ lt-ltb x n less ∙ sym (lt-ltb x n' (omega (arith, less, more)))
    | inr above ↦ le-ltb x n above ∙ sym (le-ltb x n' (omega (arith, above, more, other)))
  ])
]
  where
    and_false : (b : Bool) → (b && false) ≡ false
    and_false true = refl
    and_false false = refl

one_new : (n n' x a : ℕ) → n' ≡ n + 1 → a ≤ x → (x ≡ n → a ≡ n) → (n == x || false) ≡ is_one n' x n a
one_new n n' x a more le own = elim (cases_eq n x) [
  | inl e ↦
      ap (λ (b : Bool). b || false) (eq-eqb n x e)
      ∙ sym (λ i. lt-ltb x n' (omega (arith, e, more)) i && eq-eqb a n (own (sym e)) i)
  | inr other ↦ ap (λ (b : Bool). b || false) (ne_eqb n x other) ∙ sym (elim (cases_lt x n) [
    | inl less ↦
        ap (λ (b : Bool). nat_lt x n' && b) (ne_eqb a n (λ e. absurd (omega (arith, e, less, le))))
        ∙ and_false (nat_lt x n')
    | inr above ↦ ap (λ (b : Bool). b && a == n) (le-ltb x n' (omega (arith, above, other, more)))
  ])
]
  where
    and_false : (b : Bool) → (b && false) ≡ false
    and_false true = refl
    and_false false = refl

-- ---- links

leads_more : (m : ℕ → ℕ) (ls : List ℕ) → m (length ls) ≡ length ls → Leads m ls → Leads m (ls ++ length ls ∷ [])
leads_more m ls own h = record {
  each = λ x d lt. elim (cases_lt x (length ls)) [
    | inl before ↦ get_or-append ls (length ls ∷ []) d x before ∙ h.each x d before
    | inr behind ↦
        let at : length ls ≡ x = omega (arith, behind, lt, length-append ls (length ls ∷ [])) in
        subst (λ (n : ℕ). get_or (ls ++ length ls ∷ []) n d ≡ m n) at (get_or-append_seam ls (length ls) [] d ∙ sym own)
  ];
}

-- a member of a representative is linked to it
pub member_links : (m : ℕ → ℕ) (k : Kept) (r x : ℕ) → IsLinked m k → r < length k.nodes → m r ≡ r
    → is_in x (lists_at k r).members ≡ true → get_or k.links x 0 ≡ r
member_links m k r x h lt own there =
    let parts = and_parts (nat_lt x (length k.nodes)) (m x == r) (sym (h.members r x lt own) ∙ there) in
    h.leads.each x 0 (omega (arith, ltb-true x (length k.nodes) parts.0, h.equal)) ∙ eqb-true (m x) r parts.1

-- ---- what one fact does

changed_linked : (m : ℕ → ℕ) (k : Kept) (at : ℕ) (change : Lists → Lists)
    → ((n : Lists) → (change n).members ≡ n.members) → IsLinked m k → IsLinked m (changed_at at change k)
changed_linked m k at change same h =
    let len = length-set k.nodes at (change (lists_at k at)) in
    record {
      equal = h.equal ∙ sym len;
      leads = h.leads;
      below = h.below;
      twice = h.twice;
      beyond = λ x le. h.beyond x (omega (arith, le, len));
      members = λ r x lt own.
          let lt-old : r < length k.nodes = omega (arith, lt, len) in
          ap (is_in x) (members_changed k at change same r lt-old) ∙ h.members r x lt-old own
          ∙ ap (λ (n : ℕ). is_one n x r (m x)) (sym len);
      heads = λ r d lt.
          let lt-old : r < length k.nodes = omega (arith, lt, len) in
          ap (λ (ms : List ℕ). get_or ms 0 d) (members_changed k at change same r lt-old) ∙ h.heads r d lt-old;
    }

pub grown_linked : (m : ℕ → ℕ) (k : Kept) (origin : ℕ × ℕ) → IsLinked m k → IsLinked m (grown origin k)
grown_linked m k origin h =
    let n = length k.nodes in
    let new = new_lists n origin in
    let len = length-append k.nodes (new ∷ []) in
    let old =
    λ (r : ℕ) (before : r < n). (let e : lists_at (grown origin k) r ≡ lists_at k r =
    get_or-append k.nodes (new ∷ []) bare r before in
    e) in
    let last =
    λ (r : ℕ) (behind : n ≤ r) (lt : r < length (k.nodes ++ new ∷ [])). (let e : r ≡ n =
    omega (arith, behind, lt, len) in
    e) in
    let at-last : lists_at (grown origin k) n ≡ new = get_or-append_seam k.nodes new [] bare in
    record {
      equal = omega (arith, h.equal, len, length-append k.links (length k.links ∷ []));
      leads = leads_more m k.links (h.beyond (length k.links) (omega (arith, h.equal))) h.leads;
      below = h.below;
      twice = h.twice;
      beyond = λ x le. h.beyond x (omega (arith, le, len));
      members = λ r x lt own. elim (cases_lt r n) [
        | inl before ↦
            ap (λ (l : Lists). is_in x l.members) (old r before) ∙ h.members r x before own
            ∙ one_more n (length (k.nodes ++ new ∷ [])) x r (m x) (omega (arith, len)) before
            (λ e. h.beyond x (omega (arith, e)) ∙ e)
        | inr behind ↦
            let at = last r behind lt in
            ap (λ (i : ℕ). is_in x (lists_at (grown origin k) i).members) at
            ∙ ap (λ (l : Lists). is_in x l.members) at-last
            ∙ one_new n (length (k.nodes ++ new ∷ [])) x (m x) (omega (arith, len)) (h.below x)
            (λ e. h.beyond x (omega (arith, e)) ∙ e)
            ∙ ap (λ (i : ℕ). is_one (length (k.nodes ++ new ∷ [])) x i (m x)) (sym at)
      ];
      heads = λ r d lt. elim (cases_lt r n) [
        | inl before ↦ ap (λ (l : Lists). get_or l.members 0 d) (old r before) ∙ h.heads r d before
        | inr behind ↦
            let at = last r behind lt in
            ap (λ (i : ℕ). get_or (lists_at (grown origin k) i).members 0 d) at
            ∙ ap (λ (l : Lists). get_or l.members 0 d) at-last ∙ sym at
      ];
    }

made_linked : (m : ℕ → ℕ) (k : Kept) (origin : ℕ × ℕ) (to : ℕ) → IsLinked m k → IsLinked m (made origin to k)
made_linked m k origin to h = by (to == length k.nodes)
  where
    by : (b : Bool) → IsLinked m (if b then grown origin k else k)
    by true = grown_linked m k origin h
    by false = h

-- two representatives become the lesser
merged_high : (a b : ℕ) → merged a b (max a b) ≡ min a b
merged_high a b = grind (arith, nat_tests)

merged_low : (a b : ℕ) → merged a b (min a b) ≡ min a b
merged_low a b = grind (arith, nat_tests)

merged_other : (a b x : ℕ) → x ≢ max a b → merged a b x ≡ x
merged_other a b x other = grind (arith, nat_tests)

pub merged_one : (a b x : ℕ) → a ≡ b → merged a b x ≡ x
merged_one a b x same = grind (arith, nat_tests)

merged_le : (a b x : ℕ) → merged a b x ≤ x
merged_le a b x = grind (arith, nat_tests)

merged_is_low : (a b v : ℕ) → (v == min a b || v == max a b) ≡ (merged a b v == min a b)
merged_is_low a b v = grind (arith, nat_tests)

merged_is_other : (a b v x : ℕ) → x ≢ min a b → x ≢ max a b → (v == x) ≡ (merged a b v == x)
merged_is_other a b v x low high = grind (arith, nat_tests)

merged_to_high : (a b v : ℕ) → a ≢ b → merged a b v ≢ max a b
merged_to_high a b v differ = grind (arith, nat_tests)

stays_from : (a b v r : ℕ) → merged a b v ≡ r → r ≢ min a b → v ≡ r
stays_from a b v r is other = grind (arith, nat_tests)

module _ (m : ℕ → ℕ) (k : Kept) (y z : ℕ) (h : IsLinked m k) (y-in : y < length k.nodes)
    (z-in : z < length k.nodes) where
  abbrev next : ℕ → ℕ
  next x = merged (m y) (m z) (m x)

  pub low_stays : m (min (m y) (m z)) ≡ min (m y) (m z)
  low_stays = elim (cases_lt (m y) (m z)) [
    | inl lt ↦ (let e : min (m y) (m z) ≡ m y = omega (arith, lt) in ap m e ∙ h.twice y ∙ sym e)
    | inr ge ↦ (let e : min (m y) (m z) ≡ m z = omega (arith, ge) in ap m e ∙ h.twice z ∙ sym e)
  ]

  pub high_stays : m (max (m y) (m z)) ≡ max (m y) (m z)
  high_stays = elim (cases_lt (m y) (m z)) [
    | inl lt ↦ (let e : max (m y) (m z) ≡ m z = omega (arith, lt) in ap m e ∙ h.twice z ∙ sym e)
    | inr ge ↦ (let e : max (m y) (m z) ≡ m y = omega (arith, ge) in ap m e ∙ h.twice y ∙ sym e)
  ]

  next-twice : (x : ℕ) → next (next x) ≡ next x
  next-twice x = elim (cases_eq (m x) (max (m y) (m z))) [
    | inl same ↦
        let to-low : next x ≡ min (m y) (m z) = ap (merged (m y) (m z)) same ∙ merged_high (m y) (m z) in
        ap next to-low ∙ ap (merged (m y) (m z)) low_stays ∙ merged_low (m y) (m z) ∙ sym to-low
    | inr other ↦
        let stays : next x ≡ m x = merged_other (m y) (m z) (m x) other in
        ap next stays ∙ ap (merged (m y) (m z)) (h.twice x)
  ]

  join_linked : m y ≢ m z → IsLinked next (linked (max (m y) (m z)) (min (m y) (m z)) k)
  join_linked differ =
      let high = max (m y) (m z) in
      let low = min (m y) (m z) in
      let n = length k.nodes in
      let lt : low < high = omega (arith, differ) in
      let high-in : high < n = omega (arith, y-in, z-in, h.below y, h.below z) in
      let low-in : low < n = omega (arith, lt, high-in) in
      let hs = (lists_at k high).members in
      let ms = (lists_at k low).members in
      let both = absorbing (lists_at k high) (lists_at k low) in
      let len = length-set_each hs low k.links in
      let n-len = length-set k.nodes low both in
      let at-low : lists_at (linked high low k) low ≡ both = get_or-set_same k.nodes low both bare low-in in
      record {
        equal = len ∙ h.equal ∙ sym n-len;
        leads = record {
          each = λ x d within.
              let inside : x < length k.links = omega (arith, within, len) in
              let is : is_in x hs ≡ (nat_lt x n && m x == high) = h.members high x high-in high_stays in
              let there : nat_lt x n ≡ true = lt-ltb x n (omega (arith, inside, h.equal)) in
              elim (cases_eq (m x) high) [
                | inl same ↦
                    set_each-in hs low k.links x d inside (is ∙ (λ i. there i && eq-eqb (m x) high same i))
                    ∙ sym (ap (merged (m y) (m z)) same ∙ merged_high (m y) (m z))
                | inr other ↦
                    set_each-other hs low k.links x d (is ∙ (λ i. there i && ne_eqb (m x) high other i))
                    ∙ h.leads.each x d inside ∙ sym (merged_other (m y) (m z) (m x) other)
              ];
        };
        below = λ x. omega (arith, merged_le (m y) (m z) (m x), h.below x);
        twice = next-twice;
        beyond = λ x le.
            let stays : m x ≡ x = h.beyond x (omega (arith, le, n-len)) in
            ap (merged (m y) (m z)) stays
            ∙ merged_other (m y) (m z) x (λ e. absurd (omega (arith, e, le, n-len, high-in)));
        members = λ r x r-in own. elim (cases_eq r low) [
          | inl e ↦
              ap (λ (i : ℕ). is_in x (lists_at (linked high low k) i).members) e
              ∙ ap (λ (l : Lists). is_in x l.members) at-low ∙ any-append (λ v. v == x) ms hs
              ∙ (λ i. h.members low x low-in low_stays i || h.members high x high-in high_stays i)
              ∙ sym (and-or_distrib_left (nat_lt x n) (m x == low) (m x == high))
              ∙ ap (λ (b : Bool). nat_lt x n && b) (merged_is_low (m y) (m z) (m x))
              ∙ (λ i. is_one (sym n-len i) x (sym e i) (next x))
          | inr other ↦
              let same : m r ≡ r = stays_from (m y) (m z) (m r) r own other in
              let not-high : r ≢ high = λ e. merged_to_high (m y) (m z) (m r) differ (own ∙ e) in
              ap (λ (l : Lists). is_in x l.members) (get_or-set_other k.nodes low r both bare other)
              ∙ h.members r x (omega (arith, r-in, n-len)) same
              ∙ ap (λ (b : Bool). nat_lt x n && b) (merged_is_other (m y) (m z) (m x) r other not-high)
              ∙ (λ i. is_one (sym n-len i) x r (next x))
        ];
        heads = λ r d r-in. elim (cases_eq r low) [
          | inl e ↦
              ap (λ (i : ℕ). get_or (lists_at (linked high low k) i).members 0 d) e
              ∙ ap (λ (l : Lists). get_or l.members 0 d) at-low
              ∙ head_stays ms hs low (λ d'. h.heads low d' low-in) d ∙ sym e
          | inr other ↦
              ap (λ (l : Lists). get_or l.members 0 d) (get_or-set_other k.nodes low r both bare other)
              ∙ h.heads r d (omega (arith, r-in, n-len))
        ];
      }

  same_linked : IsLinked next (after m (Same y z) k)
  same_linked = elim (cases_eq (m y) (m z)) [
    | inl same ↦
        let none : next ≡ m = λ i x. merged_one (m y) (m z) (m x) same i in
        let all : after m (Same y z) k ≡ k =
        ap (λ (b : Bool). if b then k else linked (max (m y) (m z)) (min (m y) (m z)) k)
        (eq-eqb (min (m y) (m z)) (max (m y) (m z)) (omega (arith, same))) in
        subst (λ (j : Kept). IsLinked next j) (sym all) (subst (λ (p : ℕ → ℕ). IsLinked p k) (sym none) h)
    | inr differ ↦
        let all : after m (Same y z) k ≡ linked (max (m y) (m z)) (min (m y) (m z)) k =
        ap (λ (b : Bool). if b then k else linked (max (m y) (m z)) (min (m y) (m z)) k)
        (ne_eqb (min (m y) (m z)) (max (m y) (m z)) (λ e. absurd (omega (arith, e, differ)))) in
        subst (λ (j : Kept). IsLinked next j) (sym all) (join_linked differ)
  ]

pub after_linked : (m : ℕ → ℕ) (k : Kept) (f : Fact ℕ) → IsLinked m k → IsFit (length k.nodes) f
    → IsLinked (rep_after m f) (after m f k)
after_linked m k (Has y c) h fit = changed_linked m k (m y) (having c) (λ n. refl) h
after_linked m k (Edge r y z) h fit =
    changed_linked m (made (r, y) z k) (m y) (leading r z) (λ n. refl) (made_linked m k (r, y) z h)
after_linked m k (Apart y z) h fit = changed_linked m k (m y) (parted z) (λ n. refl) h
after_linked m k (Same y z) h fit = same_linked m k y z h fit.0 fit.1
