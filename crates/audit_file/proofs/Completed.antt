-- Lines that lack just the next one are the front of a text.
use Rattle.std.proofs.Common.{◌≡◌, ℕ, zero, suc, ◌+◌, ◌-◌, ◌<◌, ◌≤◌, List, [], ◌∷◌, ◌++◌, length, take, drop, Result}
use Rattle.std.proofs.Common.{Ok, Err, Option, Some, None, refl, ap, sym, ◌∙◌, subst, arith, append_assoc, inl, inr}
use Rattle.std.specs.Result.{result_map_both}
use Rattle.std.proofs.lemmas.Bool.{cases_lt}
use Rattle.std.proofs.lemmas.List.{length-drop, length-take, take-append-drop, take_all}
use Rattle.certificate_lines.specs.Malformed.{BeginsText, TellsMalformed, first_unblank}
use Rattle.audit_file.specs.AuditText.{Ahead, Reads, read_on, line_from, line_read, block_len, block, behind_block}
use Rattle.audit_file.specs.AuditText.{block_read, line_of_block, blank_read}
use Rattle.audit_file.proofs.Times.{block_ok, block_none}
use Rattle.audit_file.proofs.Cut.{EndsThere}
use Rattle.audit_file.proofs.Fronts.{at_lines, IsFront, unblank}

-- where just the next line is lacking, some lines complete the reading
abbrev pub Completes : {C : Type 0} → (Ahead → Result C ℕ) → Type 0
Completes {C = C} f = (n : ℕ) (ls : List (List ℕ)) → f (at_lines n ls) ≡ Err (n + length ls)
    → (rest : List (List ℕ)) × (c : C) × (f (at_lines n (ls ++ rest)) ≡ Ok c)

-- ---- a reading that looks at no line behind those that it reads

module _ {A : Type 0} (f : Ahead → Reads A) (front : IsFront f) where
  -- it may be completed by lines that it reads to the last
  pub record ReadsWhole (n : ℕ) (ls : List (List ℕ)) : Type 0 where
    pub rest : List (List ℕ)
    pub read : A
    pub is : (more : List (List ℕ))
        → ◌≡◌ {A = Reads A} (f (at_lines n ((ls ++ rest) ++ more)))
        (Ok (read, at_lines (n + length (ls ++ rest)) more))

  pub whole : (n : ℕ) (ls rest : List (List ℕ)) (a : A) (next : Ahead) (m : ℕ) → f (at_lines n ls) ≡ Err m
      → ◌≡◌ {A = Reads A} (f (at_lines n (ls ++ rest))) (Ok (a, next)) → ReadsWhole n ls
  whole n ls rest a next m bad good =
      let t = front.good n (ls ++ rest) a next good in
      let c = t.0 in
      elim (cases_lt (length ls) c) [
        | inl long ↦
            let within = t.2.within in
            let cut : take c (ls ++ rest) ≡ ls ++ take (c - length ls) rest = take_more c ls rest (omega (arith, long)) in
            let e : c ≡ length (ls ++ take (c - length ls) rest) =
            omega (arith, within, length-take c (ls ++ rest), ap length cut) in
            record {
              rest = take (c - length ls) rest;
              read = a;
              is =
                  λ more. ap (λ x. f (at_lines n (x ++ more))) (sym cut) ∙ t.2.same more
                  ∙ (λ i. Ok (a, at_lines (n + e i) more));
            }
        | inr short ↦
            let cut : take c (ls ++ rest) ++ drop c ls ≡ ls =
            ap (λ x. x ++ drop c ls) (take_front c ls rest (omega (arith, short))) ∙ take-append-drop c ls in
            let clash : ◌≡◌ {A = Reads A} (Err m) (Ok (a, at_lines (n + c) (drop c ls))) =
            sym bad ∙ ap (λ x. f (at_lines n x)) (sym cut) ∙ t.2.same (drop c ls) in
            absurd (cc clash)
      ]
    where
      take_front : (c : ℕ) (xs ys : List (List ℕ)) → c ≤ length xs → take c (xs ++ ys) ≡ take c xs
      take_front zero xs ys le = refl
      take_front (suc c) [] ys le = absurd (omega (arith, le))
      take_front (suc c) (x ∷ xs) ys le =
          ap (λ (zs : List (List ℕ)). x ∷ zs) (take_front c xs ys (omega (arith, le)))

      take_more : (c : ℕ) (xs ys : List (List ℕ)) → length xs ≤ c → take c (xs ++ ys) ≡ xs ++ take (c - length xs) ys
      take_more c [] ys le = let e : c ≡ c - 0 = omega arith in ap (λ k. take k ys) e
      take_more zero (x ∷ xs) ys le = absurd (omega (arith, le))
      take_more (suc c) (x ∷ xs) ys le =
          let e : suc c - suc (length xs) ≡ c - length xs = omega (arith, le) in
          ap (λ (zs : List (List ℕ)). x ∷ zs)
          (take_more c xs ys (omega (arith, le)) ∙ ap (λ k. xs ++ take k ys) (sym e))

-- ---- one after another

module _ {A B : Type 0} (f : Ahead → Reads A) (g : A → Ahead → Result B ℕ) (front : IsFront f)
    (first : Completes f) (told : (a : A) (n m : ℕ) → g a (at_lines n []) ≡ Err m → m ≡ n)
    (second : (at : Ahead) (a : A) (next : Ahead) → ◌≡◌ {A = Reads A} (f at) (Ok (a, next)) → Completes (g a)) where
  abbrev both : Ahead → Result B ℕ
  both at = read_on (f at) g

  -- the second goes on where the first has read all
  go_on : (n : ℕ) (ls : List (List ℕ)) → ReadsWhole f front n ls
      → (rest : List (List ℕ)) × (b : B) × (both (at_lines n (ls ++ rest)) ≡ Ok b)
  go_on n ls r = by (g r.read (at_lines (n + length (ls ++ r.rest)) [])) refl
    where
      goes : (more : List (List ℕ)) → both (at_lines n (ls ++ (r.rest ++ more))) ≡ g r.read (at_lines (n + length (ls ++ r.rest)) more)
      goes more =
          ap (λ x. both (at_lines n x)) (sym (append_assoc ls r.rest more))
          ∙ ap (λ (s : Reads A). read_on s g) (r.is more)

      by : (s : Result B ℕ) → g r.read (at_lines (n + length (ls ++ r.rest)) []) ≡ s
          → (rest : List (List ℕ)) × (b : B) × (both (at_lines n (ls ++ rest)) ≡ Ok b)
      by (Ok b) is = (r.rest ++ [], b, goes [] ∙ is)
      by (Err m) is =
          let end = n + length (ls ++ r.rest) in
          let at_end : m ≡ end = told r.read end m is in
          let none : end ≡ end + 0 = omega arith in
          let more = second (at_lines n ((ls ++ r.rest) ++ [])) r.read (at_lines end []) (r.is []) end []
          (is ∙ ap Err (at_end ∙ none)) in
          (r.rest ++ more.0, more.1, goes more.0 ∙ more.2)

  pub both_complete : Completes (λ at. read_on (f at) g)
  both_complete n ls h = by (f (at_lines n ls)) refl
    where
      by : (s : Reads A) → f (at_lines n ls) ≡ s
          → (rest : List (List ℕ)) × (b : B) × (both (at_lines n (ls ++ rest)) ≡ Ok b)
      by (Err m) is =
          let same : m ≡ n + length ls = cc (sym (ap (λ (s : Reads A). read_on s g) is) ∙ h) in
          let c = first n ls (is ∙ ap Err same) in
          go_on n ls (whole f front n ls c.0 c.1.0 c.1.1 m is c.2)
      by (Ok p) is =
          let t = front.good n ls p.0 p.1 is in
          let c = t.0 in
          let within = t.2.within in
          let e : n + length ls ≡ n + c + length (drop c ls) = omega (arith, within, length-drop c ls) in
          let later : g p.0 (at_lines (n + c) (drop c ls)) ≡ Err (n + c + length (drop c ls)) =
          ap (g p.0) (sym t.1) ∙ sym (ap (λ (s : Reads A). read_on s g) is) ∙ h ∙ ap Err e in
          let more = second (at_lines n ls) p.0 p.1 is (n + c) (drop c ls) later in
          let cut : take c ls ++ (drop c ls ++ more.0) ≡ ls ++ more.0 =
          sym (append_assoc (take c ls) (drop c ls) more.0) ∙ ap (λ x. x ++ more.0) (take-append-drop c ls) in (
            more.0,
            more.1,
            ap (λ x. both (at_lines n x)) (sym cut)
                ∙ ap (λ (s : Reads A). read_on s g) (t.2.same (drop c ls ++ more.0)) ∙ more.2,
          )

-- ---- one line

pub line_completes : {A : Type 0} (says : List ℕ → Option A) (l : List ℕ) (a : A) → says l ≡ Some a
    → Completes (line_read says)
line_completes {A = A} says l a is n [] h = (
  l ∷ [],
  (a, at_lines (n + 1) []),
  ap (λ (r : Option A). elim r [ None ↦ Err n | Some b ↦ Ok (b, at_lines (n + 1) []) ]) is,
)
line_completes {A = A} says l a is n (k ∷ ks) h = by (says k) refl
  where
    told : (r : Option A) → says k ≡ r
        → ◌≡◌ {A = Reads A} (line_from says n (k ∷ ks))
        (elim r [ None ↦ Err n | Some b ↦ Ok (b, at_lines (n + 1) ks) ])
    told r at = ap (λ (s : Option A). elim s [ None ↦ Err n | Some b ↦ Ok (b, at_lines (n + 1) ks) ]) at

    by : (r : Option A) → says k ≡ r
        → (rest : List (List ℕ)) × (c : A × Ahead)
        × ◌≡◌ {A = Reads A} (line_read says (at_lines n ((k ∷ ks) ++ rest))) (Ok c)
    by None at =
        let same : n ≡ n + length (k ∷ ks) = cc (sym (told None at) ∙ h) in absurd (omega (arith, same))
    by (Some b) at =
        let clash : ◌≡◌ {A = Reads A} (Ok (b, at_lines (n + 1) ks)) (Err (n + length (k ∷ ks))) =
        sym (told (Some b) at) ∙ h in
        absurd (cc clash)

-- ---- nothing more

pub done_completes : {A : Type 0} (a : A) → Completes {C = A × Ahead} (λ at. Ok (a, at))
done_completes {A = A} a n ls h =
    let clash : ◌≡◌ {A = Reads A} (Ok (a, at_lines n ls)) (Err (n + length ls)) = h in absurd (cc clash)

-- ---- a block

module _ {K : Type 0} (reading : List (List ℕ) → Option K) (malformed : List (List ℕ) → Option ℕ)
    (tells : TellsMalformed 2 reading malformed) (ends : EndsThere reading) where
  pub block_completes : Completes (block_read reading malformed)
  block_completes n ls h = by (reading (block ls)) refl
    where
      completed : BeginsText reading ls
          → (rest : List (List ℕ)) × (c : K × Ahead)
          × ◌≡◌ {A = Reads K} (block_read reading malformed (at_lines n (ls ++ rest))) (Ok c)
      completed begins = (
        begins.0,
        (begins.1, behind_block (at_lines n (ls ++ begins.0))),
        block_ok reading malformed (at_lines n (ls ++ begins.0)) begins.1
            (ends (ls ++ begins.0) begins.1 begins.2).0,
      )

      by : (r : Option K) → reading (block ls) ≡ r
          → (rest : List (List ℕ)) × (c : K × Ahead)
          × ◌≡◌ {A = Reads K} (block_read reading malformed (at_lines n (ls ++ rest))) (Ok c)
      by (Some k) is =
          let clash : ◌≡◌ {A = Reads K} (Ok (k, behind_block (at_lines n ls))) (Err (n + length ls)) =
          sym (block_ok reading malformed (at_lines n ls) k is) ∙ h in
          absurd (cc clash)
      by None is = told (malformed (block ls)) refl
        where
          told : (m : Option ℕ) → malformed (block ls) ≡ m
              → (rest : List (List ℕ)) × (c : K × Ahead)
              × ◌≡◌ {A = Reads K} (block_read reading malformed (at_lines n (ls ++ rest))) (Ok c)
          told None none =
              let t = tells.unless (block ls) none in
              let clash : ◌≡◌ {A = Option K} None (Some t.0) = sym is ∙ t.1 in
              absurd (cc clash)
          told (Some p) some =
              let first = tells.is_first (block ls) p some in
              let k = first.0 in
              let number : n + p - 2 ≡ n + length ls =
              cc (sym (block_none reading malformed (at_lines n ls) is ∙ ap (λ r. Err (line_of_block n r)) some) ∙ h) in
              let short = length-take (block_len ls) ls in
              let within = first.2.within in
              let all : length ls ≤ block_len ls = omega (arith, number, first.1, within, short) in
              let at : k ≡ length ls = omega (arith, number, first.1) in
              let same : take k (block ls) ≡ ls =
              ap (λ x. take k x) (take_all (block_len ls) ls all) ∙ take_all k ls (omega (arith, at)) in
              completed (subst (BeginsText reading) same first.2.begins)

-- ---- the last lines

pub blank_completes : Completes blank_read
blank_completes n ls h = by (first_unblank n ls) refl
  where
    unblank_below : (xs : List (List ℕ)) (i m : ℕ) → first_unblank i xs ≡ Some m → m < i + length xs
    unblank_below xs i m is = let u = unblank xs i m is in omega (arith, u.is, u.within)

    as_ : (r : Option ℕ) → first_unblank n ls ≡ r
        → blank_read (at_lines n ls) ≡ elim r [ None ↦ Ok tt | Some p ↦ Err p ]
    as_ r is = ap (λ (s : Option ℕ). elim s [ None ↦ Ok tt | Some p ↦ Err p ]) is

    by : (r : Option ℕ) → first_unblank n ls ≡ r
        → (rest : List (List ℕ)) × (c : Unit {0}) × (blank_read (at_lines n (ls ++ rest)) ≡ Ok c)
    by None is =
        let clash : ◌≡◌ {A = Result (Unit {0}) ℕ} (Ok tt) (Err (n + length ls)) = sym (as_ None is) ∙ h in
        absurd (cc clash)
    by (Some p) is =
        let same : p ≡ n + length ls = cc (sym (as_ (Some p) is) ∙ h) in
        absurd (omega (arith, same, unblank_below ls n p is))

pub mapped_completes : {B C : Type 0} (make : B → C) (f : Ahead → Result B ℕ) → Completes f
    → Completes (λ at. result_map_both make (λ n. n) (f at))
mapped_completes {B = B} {C = C} make f completes n ls h = by (f (at_lines n ls)) refl
  where
    made : Result B ℕ → Result C ℕ
    made r = result_map_both make (λ p. p) r

    by : (r : Result B ℕ) → f (at_lines n ls) ≡ r
        → (rest : List (List ℕ)) × (c : C) × (made (f (at_lines n (ls ++ rest))) ≡ Ok c)
    by (Ok b) is =
        let clash : ◌≡◌ {A = Result C ℕ} (Ok (make b)) (Err (n + length ls)) = sym (ap made is) ∙ h in absurd (cc clash)
    by (Err p) is =
        let same : p ≡ n + length ls = cc (sym (ap made is) ∙ h) in
        let r = completes n ls (is ∙ ap Err same) in
        (r.0, make r.1, ap made r.2)
