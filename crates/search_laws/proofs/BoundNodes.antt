-- The nodes of a trail, counted by how deep they stand.
use Rattle.std.proofs.Common.{◌≡◌, ℕ, zero, suc, ◌+◌, ◌-◌, ◌*◌, ◌<◌, ◌≤◌, eqb, leb, cond, Bool, true, false, List, []}
use Rattle.std.proofs.Common.{◌∷◌, ◌++◌, length, refl, ap, ◌∙◌, arith, inl, inr, le-leb}
use Rattle.std.specs.List.{list_any}
use Rattle.std.proofs.lemmas.Bool.{cases_Bool, cases_lt, leb-true, false_from_ne_true}
use Rattle.std.proofs.lemmas.Nat.{mul-le}
use Rattle.ontology_limits.specs.Below.{count_below}
use Rattle.calculus_specs.specs.Shape.{shape_of}
use Rattle.calculus_specs.specs.declared.facts.Fact.{Fact}
use Rattle.calculus_specs.specs.State.{node_count_from, fresh_facts}
use Rattle.tableau_specs.specs.Steps.{SearchContext}
use Rattle.search_laws.proofs.Counting.{count_agree, count_longer, count_no_more}
use Rattle.search_laws.proofs.Sums.{sum_below, sum_le, sum_more, count_in, in_le, in_more, in_most}
use Rattle.tableau_specs.proofs.GenerateLines.{count-fresh}
use Rattle.search_laws.proofs.Counts.{count_front}
use Rattle.search_laws.proofs.Plain.{IsPlain, plain_count}
use Rattle.search_laws.proofs.Level.{level, plain_level, fresh_old, fresh_new}
use Rattle.search_laws.proofs.Asked.{by_role, with_concept, is_met, met_stays, IsMaking, met_after}

-- ---- longer sums

sum_longer : (n k m : ℕ) (f : ℕ → ℕ) → m ≡ n + k → sum_below n f ≤ sum_below m f
sum_longer n zero m f e = let e' : m ≡ n = omega (arith, e) in omega (arith, ap (λ (a : ℕ). sum_below a f) e')
sum_longer n (suc k) m f e =
    let m' : m ≡ suc (n + k) = omega (arith, e) in
    let rest = sum_longer n k (n + k) f refl in
    omega (arith, ap (λ (a : ℕ). sum_below a f) m')

-- a sum over those that pass
sum_passing : (n m : ℕ) (p : ℕ → Bool) (f : ℕ → ℕ) → ((y : ℕ) → f y ≤ m)
    → sum_below n (λ y. cond (p y) (f y) 0) ≤ count_below n p * m
sum_passing zero m p f le = omega arith
sum_passing (suc n) m p f le = elim (cases_Bool (p n)) [
  | inl here ↦
      let rest = sum_passing n m p f le in
      let a : cond (p n) (f n) 0 ≡ f n = ap (λ (b : Bool). cond b (f n) 0) here in
      let b : count_below n p + cond (p n) 1 0 ≡ count_below n p + 1 =
      ap (λ (b : Bool). count_below n p + cond b 1 0) here in
      let c : (count_below n p + cond (p n) 1 0) * m ≡ (count_below n p + 1) * m = ap (λ (k : ℕ). k * m) b in
      let d : (count_below n p + 1) * m ≡ count_below n p * m + m = grind arith in
      omega (arith, le n)
  | inr out ↦
      let rest = sum_passing n m p f le in
      let a : cond (p n) (f n) 0 ≡ 0 = ap (λ (b : Bool). cond b (f n) 0) out in
      let b : count_below n p + cond (p n) 1 0 ≡ count_below n p =
      ap (λ (b : Bool). count_below n p + cond b 1 0) out ∙ add_none (count_below n p) in
      let c : (count_below n p + cond (p n) 1 0) * m ≡ count_below n p * m = ap (λ (k : ℕ). k * m) b in
      omega arith
]
  where
    add_none : (k : ℕ) → k + 0 ≡ k
    add_none k = omega arith

-- ---- nodes by their levels

module _ (w : SearchContext) (ds : List ℕ) where
  -- the nodes at most h deep
  abbrev pub deep : ℕ → List (Fact ℕ) → ℕ
  deep h fs = count_below (node_count_from w.first fs) (λ z. leb (level w.first fs z) h)

  -- what nodes at most h deep have asked for and got
  abbrev met_at : ℕ → List (Fact ℕ) → ℕ → ℕ
  met_at h fs x = cond (leb (level w.first fs x) h) (count_in ds (is_met w fs x)) 0

  abbrev pub filled : ℕ → List (Fact ℕ) → ℕ
  filled h fs = sum_below (node_count_from w.first fs) (met_at h fs)

  pub filled_most : (h : ℕ) (fs : List (Fact ℕ)) → filled h fs ≤ deep h fs * length ds
  filled_most h fs =
      sum_passing (node_count_from w.first fs) (length ds) (λ x. leb (level w.first fs x) h)
      (λ x. count_in ds (is_met w fs x)) (λ x. in_most ds (is_met w fs x))

  met_at_stays : (h : ℕ) (fs gs : List (Fact ℕ)) (x : ℕ) → level w.first (fs ++ gs) x ≡ level w.first fs x
      → met_at h fs x ≤ met_at h (fs ++ gs) x
  met_at_stays h fs gs x same =
      rw same
      (by_test (leb (level w.first fs x) h) (in_le ds (is_met w fs x) (is_met w (fs ++ gs) x) (met_stays w fs gs x)))
    where
      by_test : {a b : ℕ} → (t : Bool) → a ≤ b → cond t a 0 ≤ cond t b 0
      by_test true le = le
      by_test false le = omega arith

  -- more facts fill no less
  filled_le : (h : ℕ) (fs gs : List (Fact ℕ))
      → ((v : ℕ) → v < node_count_from w.first fs → level w.first (fs ++ gs) v ≡ level w.first fs v)
      → filled h fs ≤ filled h (fs ++ gs)
  filled_le h fs gs same =
      let n = node_count_from w.first fs in
      let m = node_count_from w.first (fs ++ gs) in
      let count = count_front w.first fs gs in
      let first = sum_le n (met_at h fs) (met_at h (fs ++ gs)) (λ x lt. met_at_stays h fs gs x (same x lt)) in
      let more = sum_longer n (m - n) m (met_at h (fs ++ gs)) (omega arith) in
      omega arith

  filled_more : (h : ℕ) (fs gs : List (Fact ℕ)) (x c : ℕ)
      → ((v : ℕ) → v < node_count_from w.first fs → level w.first (fs ++ gs) v ≡ level w.first fs v)
      → x < node_count_from w.first fs → level w.first fs x ≤ h → list_any (eqb c) ds ≡ true
      → is_met w fs x c ≡ false → is_met w (fs ++ gs) x c ≡ true → filled h fs + 1 ≤ filled h (fs ++ gs)
  filled_more h fs gs x c same lt low at out here =
      let n = node_count_from w.first fs in
      let m = node_count_from w.first (fs ++ gs) in
      let count = count_front w.first fs gs in
      let up = in_more ds (is_met w fs x) (is_met w (fs ++ gs) x) c at (met_stays w fs gs x) out here in
      let a : met_at h fs x ≡ count_in ds (is_met w fs x) =
      ap (λ (b : Bool). cond b (count_in ds (is_met w fs x)) 0) (le-leb (level w.first fs x) h low) in
      let b : met_at h (fs ++ gs) x ≡ count_in ds (is_met w (fs ++ gs) x) =
      ap (λ (b : Bool). cond b (count_in ds (is_met w (fs ++ gs) x)) 0)
      (le-leb (level w.first (fs ++ gs) x) h (omega (arith, same x lt, low))) in
      let first =
      sum_more n (met_at h fs) (met_at h (fs ++ gs)) x lt (λ z mt. met_at_stays h fs gs z (same z mt)) (omega arith) in
      let more = sum_longer n (m - n) m (met_at h (fs ++ gs)) (omega arith) in
      omega arith

  deep_plain : (h : ℕ) (fs : List (Fact ℕ)) (f : Fact ℕ) → IsPlain w.first f → deep h (fs ++ f ∷ []) ≡ deep h fs
  deep_plain h fs f p =
      ap (λ (n : ℕ). count_below n (λ z. leb (level w.first (fs ++ f ∷ []) z) h)) (plain_count w.first fs f p)
      ∙ count_agree (node_count_from w.first fs) (λ z. leb (level w.first (fs ++ f ∷ []) z) h)
      (λ z. leb (level w.first fs z) h)
      (λ z lt. ap (λ (k : ℕ). leb k h) (plain_level w.first fs f p z))

  deep_old : (h : ℕ) (fs : List (Fact ℕ)) (x s e n : ℕ)
      → count_below (node_count_from w.first fs)
      (λ z. leb (level w.first (fs ++ fresh_facts x s e (node_count_from w.first fs) n) z) h)
      ≡ deep h fs
  deep_old h fs x s e n =
      count_agree (node_count_from w.first fs)
      (λ z. leb (level w.first (fs ++ fresh_facts x s e (node_count_from w.first fs) n) z) h)
      (λ z. leb (level w.first fs z) h)
      (λ z lt. ap (λ (k : ℕ). leb k h) (fresh_old w.first fs x s e n z lt))

  -- new nodes count where the node above them is less deep
  deep_make : (h : ℕ) (fs : List (Fact ℕ)) (x s e n : ℕ)
      → deep h (fs ++ fresh_facts x s e (node_count_from w.first fs) (suc n)) ≤ deep h fs + suc n
  deep_make h fs x s e n =
      let gs = fresh_facts x s e (node_count_from w.first fs) (suc n) in
      let longer =
      count_longer (node_count_from w.first fs) (suc n) (node_count_from w.first (fs ++ gs))
      (λ z. leb (level w.first (fs ++ gs) z) h) (count-fresh w.first fs x s e (suc n)) in
      omega (arith, deep_old h fs x s e (suc n))

  deep_make_none : (h : ℕ) (fs : List (Fact ℕ)) (x s e n : ℕ) → x < node_count_from w.first fs → h ≤ level w.first fs x
      → deep h (fs ++ fresh_facts x s e (node_count_from w.first fs) (suc n)) ≡ deep h fs
  deep_make_none h fs x s e n lt high =
      let gs = fresh_facts x s e (node_count_from w.first fs) (suc n) in
      let count = count-fresh w.first fs x s e (suc n) in
      count_no_more (node_count_from w.first fs) (suc n) (node_count_from w.first (fs ++ gs))
      (λ z. leb (level w.first (fs ++ gs) z) h) count (λ y from before.
      let up = fresh_new w.first fs x s e (suc n) y lt from (omega arith) in
      false_from_ne_true (leb (level w.first (fs ++ gs) y) h)
      (λ k. absurd (omega (arith, leb-true (level w.first (fs ++ gs) y) h k, up))))
      ∙ deep_old h fs x s e (suc n)

  -- ---- the count

  -- the nodes less deep than h have been filled so often
  abbrev pub room : ℕ → List (Fact ℕ) → ℕ
  room zero fs = 0
  room (suc h) fs = filled h fs

  room_le : (h : ℕ) (fs gs : List (Fact ℕ))
      → ((v : ℕ) → v < node_count_from w.first fs → level w.first (fs ++ gs) v ≡ level w.first fs v)
      → room h fs ≤ room h (fs ++ gs)
  room_le zero fs gs same = omega arith
  room_le (suc h) fs gs same = filled_le h fs gs same

  pub times_le : (g a b : ℕ) → a ≤ b → g * a ≤ g * b
  times_le g a b le = mul-le g a g b (omega arith) le

  pub times_more : (g a b : ℕ) → a + 1 ≤ b → g * a + g ≤ g * b
  times_more g a b le =
      let k = mul-le g (a + 1) g b (omega arith) le in let e : g * (a + 1) ≡ g * a + g = grind arith in omega arith

  abbrev pub Fits : ℕ → ℕ → List (Fact ℕ) → Type 0
  Fits g h fs = deep h fs ≤ w.first + g * room h fs

  pub fits_plain : (g h : ℕ) (fs : List (Fact ℕ)) (f : Fact ℕ) → IsPlain w.first f → Fits g h fs
      → Fits g h (fs ++ f ∷ [])
  fits_plain g h fs f p k =
      let d = deep_plain h fs f p in
      let r =
      times_le g (room h fs) (room h (fs ++ f ∷ [])) (room_le h fs (f ∷ []) (λ v lt. plain_level w.first fs f p v)) in
      omega arith

  pub fits_make : (g h : ℕ) (fs new : List (Fact ℕ)) (k : IsMaking w fs new) → ((s : ℕ) → w.theory.below s s ≡ true)
      → suc k.more ≤ g → list_any (eqb k.by) ds ≡ true → Fits g h fs → Fits g h (fs ++ new)
  fits_make g h fs new k itself few at fits =
      let s = by_role (shape_of w.table k.by) in
      let e = with_concept (shape_of w.table k.by) in
      let same : (v : ℕ) → v < node_count_from w.first fs → level w.first (fs ++ new) v ≡ level w.first fs v =
      λ v lt. ap (λ (gs : List (Fact ℕ)). level w.first (fs ++ gs) v) k.is_new
      ∙ fresh_old w.first fs k.at s e (suc k.more) v lt in
      let after = met_after w fs new k itself in
      elim (cases_lt (level w.first fs k.at) h) [
        | inr high ↦
            let d =
            ap (λ (gs : List (Fact ℕ)). deep h (fs ++ gs)) k.is_new
            ∙ deep_make_none h fs k.at s e k.more k.is_open.is_node (omega arith) in
            let r = times_le g (room h fs) (room h (fs ++ new)) (room_le h fs new same) in
            omega arith
        | inl low ↦ rises h low same after fits
      ]
    where
      rises : (h : ℕ) → level w.first fs k.at < h
          → ((v : ℕ) → v < node_count_from w.first fs → level w.first (fs ++ new) v ≡ level w.first fs v)
          → is_met w (fs ++ new) k.at k.by ≡ true → Fits g h fs → Fits g h (fs ++ new)
      rises zero lt same after fits' = absurd (omega arith)
      rises (suc h') lt same after fits' =
          let d = ap (λ (gs : List (Fact ℕ)). deep (suc h') (fs ++ gs)) k.is_new in
          let d' =
          deep_make (suc h') fs k.at (by_role (shape_of w.table k.by)) (with_concept (shape_of w.table k.by)) k.more in
          let r =
          times_more g (filled h' fs) (filled h' (fs ++ new))
          (filled_more h' fs new k.at k.by same k.is_open.is_node (omega arith) at k.not_met after) in
          omega arith
