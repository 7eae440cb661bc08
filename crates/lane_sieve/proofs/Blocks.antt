-- Tests of two lists, place by place, in pieces.
use Rattle.std.proofs.Common.{◌≡◌, ℕ, ◌+◌, ◌<◌, ◌≤◌, ◌&&◌, List, [], ◌∷◌, ◌++◌, Bool, true, false, cond, zero, suc, set}
use Rattle.std.proofs.Common.{add-zero, length, take, drop, get_or, refl, ap, ◌∙◌, sym, arith}
use Rattle.std.specs.Simd.Lanes.{zip2, chunk, put_chunk}
use Rattle.std.proofs.lemmas.Simd.{chunk-drop, length-chunk, length-zip2, put_chunk_is, take_more_put_chunk}
use Rattle.std.proofs.lemmas.List.{take-append-drop, length-take-le, take_more, drop_more, drop-drop, drop_at}
use Rattle.std.proofs.lemmas.List.{append-nil, take_more_set}
use Rattle.std.proofs.Math.Seq.{take-add}
use Rattle.lane_sieve.specs.Words.{each_pair, places, is_subset}

pub each_pair-append : (t : ℕ → ℕ → Bool) (xs xs' ys ys' : List ℕ) → length xs ≡ length ys
    → each_pair t (xs ++ xs') (ys ++ ys') ≡ each_pair t xs ys && each_pair t xs' ys'
each_pair-append t [] xs' [] ys' e = refl
each_pair-append t [] xs' (y ∷ ys) ys' e = absurd (omega arith)
each_pair-append t (x ∷ xs) xs' [] ys' e = absurd (omega arith)
each_pair-append t (x ∷ xs) xs' (y ∷ ys) ys' e =
    let ih = each_pair-append t xs xs' ys ys' (omega arith) in
    elim (t x y) as (λ b. b && each_pair t (xs ++ xs') (ys ++ ys') ≡ (b && each_pair t xs ys) && each_pair t xs' ys')
    [ true ↦ ih | false ↦ refl ]

-- a list in three pieces
pub three : (at n : ℕ) (xs : List ℕ) → xs ≡ take at xs ++ (chunk at n xs ++ drop (at + n) xs)
three at n xs = sym (take-append-drop at xs) ∙ ap (λ (ys : List ℕ). take at xs ++ ys) (chunk-drop at n xs)

pub take_block : (at n : ℕ) (xs : List ℕ) → at + n ≤ length xs → take (at + n) xs ≡ take at xs ++ chunk at n xs
take_block at n xs h = take-add at n xs

-- the test of a part and of the block after it
pub each_pair-block : (t : ℕ → ℕ → Bool) (a b : List ℕ) (at n : ℕ) → length a ≡ length b → at + n ≤ length a
    → each_pair t (take at a) (take at b) ≡ true → each_pair t (chunk at n a) (chunk at n b) ≡ true
    → each_pair t (take (at + n) a) (take (at + n) b) ≡ true
each_pair-block t a b at n e h before here =
    rw (
      take_block at n a h,
      take_block at n b (omega arith),
      each_pair-append t (take at a) (chunk at n a) (take at b) (chunk at n b)
          (omega (arith, length-take-le at a (omega arith), length-take-le at b (omega arith))),
      before,
      here,
    ) refl

-- a block where the test fails
pub each_pair-fails : (t : ℕ → ℕ → Bool) (a b : List ℕ) (at n : ℕ) → length a ≡ length b → at + n ≤ length a
    → each_pair t (chunk at n a) (chunk at n b) ≡ false → each_pair t a b ≡ false
each_pair-fails t a b at n e h fails =
    let A = drop (at + n) a in
    let B = drop (at + n) b in
    let la = length-take-le at a (omega arith) in
    let lb = length-take-le at b (omega arith) in
    let ca = length-chunk at n a h in
    let cb = length-chunk at n b (omega arith) in
    let split : each_pair t a b ≡ each_pair t (take at a ++ (chunk at n a ++ A)) (take at b ++ (chunk at n b ++ B)) =
    ap (λ (xs : List ℕ). each_pair t xs b) (three at n a)
    ∙ ap (each_pair t (take at a ++ (chunk at n a ++ A))) (three at n b) in
    split ∙ each_pair-append t (take at a) (chunk at n a ++ A) (take at b) (chunk at n b ++ B) (omega (arith, la, lb))
    ∙ ap (λ (x : Bool). each_pair t (take at a) (take at b) && x)
    (each_pair-append t (chunk at n a) A (chunk at n b) B (omega (arith, ca, cb))
    ∙ ap (λ (x : Bool). x && each_pair t A B) fails)
    ∙ (elim (each_pair t (take at a) (take at b)) as (λ x. x && false ≡ false) [ true ↦ refl | false ↦ refl ])

-- the same at one place
pub chunk_one : (at : ℕ) (xs : List ℕ) → at < length xs → chunk at 1 xs ≡ get_or xs at 0 ∷ []
chunk_one at xs h = ap (take 1) (drop_more xs at 0 h)

pub each_pair-one : (t : ℕ → ℕ → Bool) (a b : List ℕ) (at : ℕ) → at < length a → at < length b → (v : Bool)
    → t (get_or a at 0) (get_or b at 0) ≡ v → each_pair t (chunk at 1 a) (chunk at 1 b) ≡ v
each_pair-one t a b at ha hb v h =
    rw (chunk_one at a ha, chunk_one at b hb, h) (elim v as (λ x. x && true ≡ x) [ true ↦ refl | false ↦ refl ])

-- ---- union

after : (at n : ℕ) (xs ys : List ℕ) → at + n ≤ length xs → length ys ≡ n
    → drop (at + n) (take at xs ++ (ys ++ drop (length ys) (drop at xs))) ≡ drop n (drop at xs)
after at n xs ys h long =
    sym (drop-drop n at (take at xs ++ (ys ++ drop (length ys) (drop at xs))))
    ∙ ap (drop n) (drop_at (take at xs) (ys ++ drop (length ys) (drop at xs)) at (length-take-le at xs (omega arith)))
    ∙ drop_at ys (drop (length ys) (drop at xs)) n long ∙ ap (λ (k : ℕ). drop k (drop at xs)) long

pub zip2-append : (f : ℕ → ℕ → ℕ) (xs xs' ys ys' : List ℕ) → length xs ≡ length ys
    → zip2 f (xs ++ xs') (ys ++ ys') ≡ zip2 f xs ys ++ zip2 f xs' ys'
zip2-append f [] xs' [] ys' e = refl
zip2-append f [] xs' (y ∷ ys) ys' e = absurd (omega arith)
zip2-append f (x ∷ xs) xs' [] ys' e = absurd (omega arith)
zip2-append f (x ∷ xs) xs' (y ∷ ys) ys' e = ap (λ (zs : List ℕ). f x y ∷ zs) (zip2-append f xs xs' ys ys' (omega arith))

-- a block more is done, where the rest of `now` is still that of `old`
pub zip2-block : (f : ℕ → ℕ → ℕ) (old now b : List ℕ) (at n : ℕ) → length old ≡ length b → length now ≡ length old
    → at + n ≤ length old → take at now ≡ zip2 f (take at old) (take at b) → drop at now ≡ drop at old
    → (take (at + n) (put_chunk at now (zip2 f (chunk at n now) (chunk at n b)))
    ≡ zip2 f (take (at + n) old) (take (at + n) b))
    × (drop (at + n) (put_chunk at now (zip2 f (chunk at n now) (chunk at n b))) ≡ drop (at + n) old)
zip2-block f old now b at n e e' h before rest =
    let here : chunk at n now ≡ chunk at n old = ap (take n) rest in
    let ys = zip2 f (chunk at n old) (chunk at n b) in
    let co = length-chunk at n old h in
    let cb = length-chunk at n b (omega arith) in
    let long : length ys ≡ n = length-zip2 f (chunk at n old) (chunk at n b) (co ∙ sym cb) ∙ co in
    let split = put_chunk_is at now ys (omega (arith, long)) in (
      rw (
        here,
        take_more_put_chunk at now ys (at + n) (omega (arith, long)) (omega arith),
        before,
        take_block at n old h,
        take_block at n b (omega arith),
        zip2-append f (take at old) (chunk at n old) (take at b) (chunk at n b)
            (omega (arith, length-take-le at old (omega arith), length-take-le at b (omega arith))),
      ) refl,
      rw (here, split) (after at n now ys (omega arith) long ∙ ap (drop n) rest ∙ drop-drop n at old),
    )

-- ---- candidates

pub places-snoc : (place : ℕ) (print : List ℕ) (ps : List (List ℕ)) (p : List ℕ)
    → places place print (ps ++ p ∷ [])
    ≡ places place print ps ++ cond (is_subset print p) ((place + length ps) ∷ []) []
places-snoc place print [] p =
    rw add-zero (elim (is_subset print p) as (λ b. cond b (place ∷ []) [] ≡ [] ++ cond b (place ∷ []) [])
    [ true ↦ refl | false ↦ refl ])
places-snoc place print (q ∷ ps) p =
    let ih = places-snoc (place + 1) print ps p in
    let up : place + 1 + length ps ≡ place + length (q ∷ ps) = omega arith in
    rw ih (elim (is_subset print q) as
    (λ b. cond b (place ∷ places (place + 1) print ps ++ cond (is_subset print p) ((place + 1 + length ps) ∷ []) [])
    (places (place + 1) print ps ++ cond (is_subset print p) ((place + 1 + length ps) ∷ []) [])
    ≡ cond b (place ∷ places (place + 1) print ps) (places (place + 1) print ps)
    ++ cond (is_subset print p) ((place + length (q ∷ ps)) ∷ []) []) [
      | true ↦ ap (λ (n : ℕ). place ∷ places (place + 1) print ps ++ cond (is_subset print p) (n ∷ []) []) up
      | false ↦ ap (λ (n : ℕ). places (place + 1) print ps ++ cond (is_subset print p) (n ∷ []) []) up
    ])

pub put_chunk_one : (at : ℕ) (xs : List ℕ) (y : ℕ) → put_chunk at xs (y ∷ []) ≡ set xs at y
put_chunk_one at [] y = refl
put_chunk_one zero (x ∷ []) y = refl
put_chunk_one zero (x ∷ z ∷ xs) y = refl
put_chunk_one (suc at) (x ∷ xs) y = ap (λ (zs : List ℕ). x ∷ zs) (put_chunk_one at xs y)

-- one place more
pub zip2-one : (f : ℕ → ℕ → ℕ) (old now b : List ℕ) (at : ℕ) → length old ≡ length b → length now ≡ length old
    → at < length old → take at now ≡ zip2 f (take at old) (take at b) → drop at now ≡ drop at old
    → (take (at + 1) (set now at (f (get_or now at 0) (get_or b at 0))) ≡ zip2 f (take (at + 1) old) (take (at + 1) b))
    × (drop (at + 1) (set now at (f (get_or now at 0) (get_or b at 0))) ≡ drop (at + 1) old)
zip2-one f old now b at e e' h before rest =
    let block = zip2-block f old now b at 1 e e' (omega arith) before rest in
    rw (
      chunk_one at now (omega arith),
      chunk_one at b (omega arith),
      put_chunk_one at now (f (get_or now at 0) (get_or b at 0)),
    ) at block

places-more : (print : List ℕ) (table : List (List ℕ)) (place : ℕ) (d : List ℕ) (v : Bool) → place < length table
    → is_subset print (get_or table place d) ≡ v
    → places 0 print (take (place + 1) table) ≡ places 0 print (take place table) ++ cond v (place ∷ []) []
places-more print table place d v lt h =
    let long : 0 + length (take place table) ≡ place = omega (arith, length-take-le place table (omega arith)) in
    rw (take_more table place d lt, places-snoc 0 print (take place table) (get_or table place d), h, long) refl

-- a place that is found
pub found_more : (print : List ℕ) (rows table : List (List ℕ)) (out out' : List ℕ) (found found' place : ℕ) (d : List ℕ)
    → rows ≡ table → found < length out → place < length table → is_subset print (get_or rows place d) ≡ true
    → out' ≡ set out found place → found' ≡ found + 1 → take found out ≡ places 0 print (take place table)
    → take found' out' ≡ places 0 print (take (place + 1) table)
found_more print rows table out out' found found' place d e room lt hit o f h =
    rw (
      o,
      f,
      take_more_set out found place room,
      h,
      places-more print table place d true lt
          (ap (λ (t : List (List ℕ)). is_subset print (get_or t place d)) (sym e) ∙ hit),
    ) refl

-- a place that is passed over
pub found_same : (print : List ℕ) (rows table : List (List ℕ)) (out out' : List ℕ) (found found' place : ℕ) (d : List ℕ)
    → rows ≡ table → place < length table → is_subset print (get_or rows place d) ≡ false
    → out' ≡ out → found' ≡ found → take found out ≡ places 0 print (take place table)
    → take found' out' ≡ places 0 print (take (place + 1) table)
found_same print rows table out out' found found' place d e lt miss o f h =
    rw (
      o,
      f,
      h,
      places-more print table place d false lt
          (ap (λ (t : List (List ℕ)). is_subset print (get_or t place d)) (sym e) ∙ miss),
    ) (sym (append-nil (places 0 print (take place table))))
