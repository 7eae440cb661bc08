-- Blocks of the nodes from 0 on, and which of them stand.
use Rattle.std.proofs.Common.{◌≡◌, ℕ, zero, suc, ◌+◌, ◌-◌, ◌<◌, ◌≤◌, ◌&&◌, min, cond, eqb, Bool, List, [], ◌∷◌, ◌++◌}
use Rattle.std.proofs.Common.{length}
use Rattle.std.proofs.Common.{take, get_or, Some, None, refl, ap, sym, ◌∙◌, subst, arith, inl, inr, add-one}
use Rattle.std.specs.Prelude.{nat_lt}
use Rattle.std.proofs.lemmas.Bool.{cases_Bool, cases_lt, lt-ltb}
use Rattle.std.proofs.lemmas.List.{length-append, length-take-le, get_or_append_left, get_or-append_right, get_or-take}
use Rattle.std.proofs.lemmas.List.{take-append-le}
use Rattle.std.proofs.Math.Seq.{take-length}
use Rattle.calculus_specs.specs.declared.facts.Fact.{Fact}
use Rattle.calculus_specs.specs.declared.facts.Fact.TheVariants.{Has, Edge, Apart, Same}
use Rattle.calculus_specs.specs.Joins.{rep}
use Rattle.calculus_specs.specs.State.{node_count_from, first_origin, parent_from, has, HaveParentsBefore}
use Rattle.tableau_specs.specs.declared.Block.{Block}
use Rattle.tableau_specs.specs.declared.Block.TheVariants.{Clear, Under}
use Rattle.tableau_specs.specs.Blocked.{is_clear, is_parent_clear, blocked_from, blocks_to, block_of}
use Rattle.tableau_specs.proofs.Agreeing.{blocks_left_by_all, nodes_left_by_all}
use Rattle.blocking.specs.Followed.{Printed, printed_more, printed_first, IsSound, AreSound, IsFollowed, AreBlocksBelow}
use Rattle.blocking.specs.Followed.{AreFirstBlocks, IsCurrent}
use Rattle.blocking.specs.Hinted.{KnownNode, known_at, nothing_known}
use Rattle.blocking.specs.Laws.{GoingOnKeepsBlocks, GoingBackKeepsBlocks, CurrentIsBelow, LessIsBelow, NothingIsBelow}

-- ---- the blocks of the nodes from 0 on

pub length-blocks_to : (first : ℕ) (fs : List (Fact ℕ)) (n : ℕ) → length (blocks_to first fs n) ≡ n
length-blocks_to first fs zero = refl
length-blocks_to first fs (suc n) =
    omega (arith, length-append (blocks_to first fs n) (block_of first fs n ∷ []), length-blocks_to first fs n)

pub get-blocks_to : (first : ℕ) (fs : List (Fact ℕ)) (n x : ℕ) (d : Block) → x < n
    → get_or (blocks_to first fs n) x d ≡ block_of first fs x
get-blocks_to first fs zero x d lt = absurd (omega arith)
get-blocks_to first fs (suc n) x d lt = elim (cases_lt x n) [
  | inl less ↦
      get_or_append_left (blocks_to first fs n) (block_of first fs n ∷ []) d x
      (omega (arith, less, length-blocks_to first fs n))
      ∙ get-blocks_to first fs n x d less
  | inr more ↦
      let same : x ≡ n = omega arith in
      let none : x - n ≡ 0 = omega arith in
      get_or-append_right (blocks_to first fs n) (block_of first fs n ∷ []) n x d (length-blocks_to first fs n) more
      ∙ ap (λ (k : ℕ). get_or (block_of first fs n ∷ []) k d) none ∙ ap (block_of first fs) (sym same)
]

-- first nodes are clear
pub first_is_clear : (first : ℕ) (fs : List (Fact ℕ)) (x : ℕ) → x < first → block_of first fs x ≡ Clear
first_is_clear first fs x lt =
    let blocks = blocks_to first fs x in
    ap (λ (b : Bool). cond b Clear
    (cond (is_parent_clear fs blocks (parent_from first fs x)) (blocked_from fs blocks x 0 x) Under))
    (lt-ltb x first lt)

all_taken : (xs : List Block) (k : ℕ) → k ≡ length xs → take k xs ≡ xs
all_taken xs k e = ap (λ (n : ℕ). take n xs) e ∙ take-length xs

pub take-blocks_to : (first : ℕ) (fs : List (Fact ℕ)) (n k : ℕ) → k ≤ n
    → take k (blocks_to first fs n) ≡ blocks_to first fs k
take-blocks_to first fs zero k le =
    let none : k ≡ 0 = omega arith in
    ap (λ (i : ℕ). take i (blocks_to first fs 0)) none ∙ ap (blocks_to first fs) (sym none)
take-blocks_to first fs (suc n) k le = elim (cases_lt n k) [
  | inl more ↦
      let same : k ≡ suc n = omega arith in
      all_taken (blocks_to first fs (suc n)) k (omega (arith, same, length-blocks_to first fs (suc n)))
      ∙ ap (blocks_to first fs) (sym same)
  | inr less ↦
      take-append-le k (blocks_to first fs n) (block_of first fs n ∷ [])
      (omega (arith, less, length-blocks_to first fs n))
      ∙ take-blocks_to first fs n k less
]

pub same-blocks_to : (first : ℕ) (fs gs : List (Fact ℕ)) (n : ℕ)
    → ((x : ℕ) → x < n → block_of first fs x ≡ block_of first gs x) → blocks_to first fs n ≡ blocks_to first gs n
same-blocks_to first fs gs zero h = refl
same-blocks_to first fs gs (suc n) h =
    let rest = same-blocks_to first fs gs n (λ x lt. h x (omega arith)) in
    let last = h n (omega arith) in
    λ i. rest i ++ last i ∷ []

pub taken_again : (xs : List Block) (k n : ℕ) → k ≤ n → take k (take n xs) ≡ take k xs
taken_again xs zero n le = refl
taken_again [] (suc k) zero le = refl
taken_again [] (suc k) (suc n) le = refl
taken_again (x ∷ xs) (suc k) zero le = absurd (omega arith)
taken_again (x ∷ xs) (suc k) (suc n) le = ap (λ (ys : List Block). x ∷ ys) (taken_again xs k n (omega arith))

-- ---- fewer nodes

fewer_sound : (first : ℕ) (fs : List (Fact ℕ)) (n k : ℕ) (ks : List KnownNode) → AreSound first fs n ks → k ≤ n
    → AreSound first fs k ks
fewer_sound first fs n k ks s le =
    record { enough = omega (arith, s.enough); each = λ z lt. s.each z (omega arith) }

pub less_below : LessIsBelow
less_below first fs n k p h le = record {
  within = omega (arith, h.within);
  first_blocks = sym (taken_again p.blocks k n le) ∙ ap (take k) h.first_blocks ∙ take-blocks_to first fs n k le;
  sound = fewer_sound first fs n k p.known h.sound le;
}

pub followed_below : (first : ℕ) (fs : List (Fact ℕ)) (n k : ℕ) (p : Printed) → IsFollowed first fs n p → k ≤ n
    → k ≤ node_count_from first fs → AreBlocksBelow first fs k p
followed_below first fs n k p h le within = record {
  within = within;
  first_blocks = ap (take k) h.all_blocks ∙ take-blocks_to first fs n k le;
  sound = fewer_sound first fs n k p.known h.sound le;
}

pub current_below : CurrentIsBelow
current_below first fs n p h le = followed_below first fs (node_count_from first fs) n p h le le

pub nothing_below : NothingIsBelow
nothing_below first fs p = record {
  within = omega arith;
  first_blocks = refl;
  sound = record { enough = omega arith; each = λ z lt. absurd (omega arith) };
}

-- ---- facts that come and go

count_more : (first : ℕ) (fs new : List (Fact ℕ)) → node_count_from first fs ≤ node_count_from first (fs ++ new)
count_more first [] [] = omega arith
count_more first [] (Has y c ∷ new) = count_more first [] new
count_more first [] (Edge r y z ∷ new) = omega (arith, count_more first [] new)
count_more first [] (Apart y z ∷ new) = count_more first [] new
count_more first [] (Same y z ∷ new) = count_more first [] new
count_more first (Has y c ∷ fs) new = count_more first fs new
count_more first (Edge r y z ∷ fs) new = omega (arith, count_more first fs new)
count_more first (Apart y z ∷ fs) new = count_more first fs new
count_more first (Same y z ∷ fs) new = count_more first fs new

origin_stays : (fs new : List (Fact ℕ)) (x p : ℕ) → first_origin fs x ≡ Some p → first_origin (fs ++ new) x ≡ Some p
origin_stays [] new x p e = cc
origin_stays (Has y c ∷ fs) new x p e = origin_stays fs new x p e
origin_stays (Edge r y z ∷ fs) new x p e = elim (cases_Bool (eqb z x)) [
  | inl hit ↦
      ap (λ (b : Bool). cond b (Some y) (first_origin (fs ++ new) x)) hit
      ∙ sym (ap (λ (b : Bool). cond b (Some y) (first_origin fs x)) hit) ∙ e
  | inr miss ↦
      ap (λ (b : Bool). cond b (Some y) (first_origin (fs ++ new) x)) miss
      ∙ origin_stays fs new x p (sym (ap (λ (b : Bool). cond b (Some y) (first_origin fs x)) miss) ∙ e)
]
origin_stays (Apart y z ∷ fs) new x p e = origin_stays fs new x p e
origin_stays (Same y z ∷ fs) new x p e = origin_stays fs new x p e

parent_stays : (first : ℕ) (fs new : List (Fact ℕ)) (x p : ℕ) → parent_from first fs x ≡ Some p
    → parent_from first (fs ++ new) x ≡ Some p
parent_stays first fs new x p e = elim (cases_Bool (nat_lt x first)) [
  | inl hit ↦
      ap (λ (b : Bool). cond b None (first_origin (fs ++ new) x)) hit
      ∙ sym (ap (λ (b : Bool). cond b None (first_origin fs x)) hit) ∙ e
  | inr miss ↦
      ap (λ (b : Bool). cond b None (first_origin (fs ++ new) x)) miss
      ∙ origin_stays fs new x p (sym (ap (λ (b : Bool). cond b None (first_origin fs x)) miss) ∙ e)
]

before_earlier : (first : ℕ) (fs new : List (Fact ℕ)) → HaveParentsBefore first (fs ++ new) → HaveParentsBefore first fs
before_earlier first fs new before x p e = before x p (parent_stays first fs new x p e)

-- the blocks below a bound where two lists say the same of what is below it
module _ (first : ℕ) (fs gs : List (Fact ℕ)) (n k : ℕ) (p : Printed)
    (blocks : (x : ℕ) → x < k → block_of first fs x ≡ block_of first gs x)
    (reps : (x : ℕ) → x < k → rep fs x ≡ rep gs x)
    (concepts : (x c : ℕ) → x < k → has fs x c ≡ has gs x c) (le : k ≤ n) (within : k ≤ node_count_from first gs)
    (h : AreBlocksBelow first fs n p) where
  sound_too : (z : ℕ) → z < k → IsSound first gs z (known_at p.known z)
  sound_too z lt =
      let s = h.sound.each z (omega arith) in
      record {
        labelled = λ c. s.labelled c ∙ concepts z c lt;
        may_block = s.may_block ∙ (λ i. eqb (reps z lt i) z && is_clear (blocks z lt i));
      }

  moved : AreBlocksBelow first gs k p
  moved = record {
    within = within;
    first_blocks = (less_below first fs n k p h le).first_blocks ∙ same-blocks_to first fs gs k blocks;
    sound = record { enough = omega (arith, h.sound.enough); each = sound_too };
  }

pub going_on : GoingOnKeepsBlocks
going_on first fs new n m p before leave h =
    let k = min n m in
    let both = λ (x : ℕ) (lt : x < k). nodes_left_by_all first fs new m leave x (omega arith) in
    moved first fs (fs ++ new) n k p
    (λ x lt. sym (blocks_left_by_all first fs new m (before_earlier first fs new before) leave x (omega arith)))
    (λ x lt. sym (both x lt).0) (λ x c lt. sym ((both x lt).1 c))
    (omega arith) (omega (arith, h.within, count_more first fs new)) h

pub going_back : GoingBackKeepsBlocks
going_back first fs new n m p before leave h =
    let k = min n (min m (node_count_from first fs)) in
    let both = λ (x : ℕ) (lt : x < k). nodes_left_by_all first fs new m leave x (omega arith) in
    moved first (fs ++ new) fs n k p
    (λ x lt. blocks_left_by_all first fs new m (before_earlier first fs new before) leave x (omega arith))
    (λ x lt. (both x lt).0) (λ x c lt. (both x lt).1 c)
    (omega arith) (omega arith) h

-- ---- one node more

pub followed_first : (first : ℕ) (fs : List (Fact ℕ)) (n : ℕ) (p : Printed) → AreBlocksBelow first fs n p
    → IsFollowed first fs n (printed_first n p)
followed_first first fs n p h = record {
  all_blocks = h.first_blocks;
  all_known = length-take-le n p.known h.sound.enough;
  sound = record {
    enough = omega (arith, length-take-le n p.known h.sound.enough);
    each =
        λ z lt. subst (IsSound first fs z) (sym (get_or-take n p.known z nothing_known lt)) (h.sound.each z lt);
  };
}

pub enough_blocks : (first : ℕ) (fs : List (Fact ℕ)) (n : ℕ) (p : Printed) → AreBlocksBelow first fs n p
    → n ≤ length p.blocks
enough_blocks first fs n p h = elim (cases_lt (length p.blocks) n) [
  | inl short ↦
      absurd (omega (arith, short, ap length h.first_blocks, length-blocks_to first fs n, length-take-most n p.blocks))
  | inr enough ↦ enough
]
  where
    length-take-most : (k : ℕ) (xs : List Block) → length (take k xs) ≤ length xs
    length-take-most zero xs = omega arith
    length-take-most (suc k) [] = omega arith
    length-take-most (suc k) (x ∷ xs) = omega (arith, length-take-most k xs)

pub followed_more : (first : ℕ) (fs : List (Fact ℕ)) (n : ℕ) (p q : Printed) (block : Block) (known : KnownNode)
    → IsFollowed first fs n p → block ≡ block_of first fs n → IsSound first fs n known
    → q ≡ printed_more p block known → IsFollowed first fs (n + 1) q
followed_more first fs n p q block known h is s put =
    let more : q.blocks ≡ blocks_to first fs (suc n) =
    ap (λ (v : Printed). v.blocks) put ∙ (λ i. h.all_blocks i ++ is i ∷ []) in
    let all : q.known ≡ p.known ++ known ∷ [] = ap (λ (v : Printed). v.known) put in
    let long : length q.known ≡ n + 1 =
    omega (arith, ap length all, length-append p.known (known ∷ []), h.all_known) in
    record {
      all_blocks = more ∙ ap (blocks_to first fs) (sym (add-one n));
      all_known = long;
      sound = record {
        enough = omega (arith, long);
        each =
            λ z lt. subst (λ (ks : List KnownNode). IsSound first fs z (known_at ks z)) (sym all)
            (elim (cases_lt z n) [
              | inl less ↦
                  subst (IsSound first fs z)
                  (sym (get_or_append_left p.known (known ∷ []) nothing_known z (omega (arith, less, h.all_known))))
                  (h.sound.each z less)
              | inr least ↦
                  let same : z ≡ n = omega arith in
                  let none : z - n ≡ 0 = omega arith in
                  let there : known_at (p.known ++ known ∷ []) z ≡ known =
                  get_or-append_right p.known (known ∷ []) n z nothing_known h.all_known least
                  ∙ ap (λ (k : ℕ). get_or (known ∷ []) k nothing_known) none in
                  subst (IsSound first fs z) (sym there) (subst (λ (v : ℕ). IsSound first fs v known) (sym same) s)
            ]);
      };
    }

-- what is kept of the nodes below n
pub first_kept : (first : ℕ) (fs : List (Fact ℕ)) (n : ℕ) (p : Printed) → AreBlocksBelow first fs n p
    → AreFirstBlocks first fs (printed_first n p)
first_kept first fs n p h =
    let followed = followed_first first fs n p h in
    let count : length (printed_first n p).blocks ≡ n = ap length followed.all_blocks ∙ length-blocks_to first fs n in
    subst (λ (k : ℕ). AreBlocksBelow first fs k (printed_first n p)) (sym count)
    (followed_below first fs n n (printed_first n p) followed (omega arith) h.within)

pub all_are_first : (first : ℕ) (fs : List (Fact ℕ)) (p : Printed) → IsCurrent first fs p → AreFirstBlocks first fs p
all_are_first first fs p h =
    let count : length p.blocks ≡ node_count_from first fs =
    ap length h.all_blocks ∙ length-blocks_to first fs (node_count_from first fs) in
    current_below first fs (length p.blocks) p h (omega (arith, count))
