-- Laws of truth values that std does not have.
use Rattle.std.proofs.Common.{◌≡◌, ◌≤◌, ℕ, ◌+◌, ◌&&◌, ◌||◌, Bool, true, false, not, cond, refl, arith}

-- two tests of which each passes where the other does are the same
pub same_truth : (a b : Bool) → (a ≡ true → b ≡ true) → (b ≡ true → a ≡ true) → a ≡ b
same_truth true true f g = refl
same_truth true false f g = let h = f refl in cc
same_truth false true f g = let h = g refl in cc
same_truth false false f g = refl

pub false_from_not : (b : Bool) → not b ≡ true → b ≡ false
false_from_not true h = cc
false_from_not false h = refl

-- ---- two tests together

-- two conjunctions of two, taken crosswise
pub and_exchange : (a b c d : Bool) → ((a && b) && (c && d)) ≡ ((a && c) && (b && d))
and_exchange true true c d = refl
and_exchange true false true d = refl
and_exchange true false false d = refl
and_exchange false b c d = refl

pub and_turned : (a b c : Bool) → (a && (b && c)) ≡ (b && (a && c))
and_turned true b c = refl
and_turned false true c = refl
and_turned false false c = refl

pub and_weaker : (a b c d : Bool) → (a ≡ true → c ≡ true) → (b ≡ true → d ≡ true) → (a && b) ≡ true → (c && d) ≡ true
and_weaker true true c d f g h = let e : c ≡ true = f refl in let k : d ≡ true = g refl in rw (e, k) refl
and_weaker true false c d f g h = let clash : false ≡ true = h in absurd (cc clash)
and_weaker false b c d f g h = let clash : false ≡ true = h in absurd (cc clash)

-- what is in a and not in c is in b and not in c, or in a and not in b
pub none_outside : (a b c : Bool) → (a && not b) ≡ false → (b && not c) ≡ false → (a && not c) ≡ false
none_outside false b c h k = refl
none_outside true true c h k = k
none_outside true false c h k = cc

-- ---- one of two tests

pub or_only : (b : Bool) → (b || false) ≡ true → b ≡ true
or_only true h = refl
or_only false h = h

pub or_absorbs : (a b : Bool) → (b ≡ true → a ≡ true) → (a || b) ≡ a
or_absorbs true b f = refl
or_absorbs false true f = let h = f refl in cc
or_absorbs false false f = refl

-- two disjunctions of two, taken crosswise
pub or_exchange : (a b c d : Bool) → ((a || b) || (c || d)) ≡ ((a || c) || (b || d))
or_exchange true b c d = refl
or_exchange false true true d = refl
or_exchange false true false d = refl
or_exchange false false c d = refl

pub or_weaker : (a b c d : Bool) → (a ≡ true → c ≡ true) → (b ≡ true → d ≡ true) → (a || b) ≡ true → (c || d) ≡ true
or_weaker true b c d f g h = let e : c ≡ true = f refl in rw e refl
or_weaker false true true d f g h = refl
or_weaker false true false d f g h = g refl
or_weaker false false c d f g h = let clash : false ≡ true = h in absurd (cc clash)

-- two last alternatives with the same condition
pub or_and_gathered : (a b c d : Bool) → ((a || (b && d)) || (c && d)) ≡ (a || ((b || c) && d))
or_and_gathered true b c d = refl
or_and_gathered false true true true = refl
or_and_gathered false true true false = refl
or_and_gathered false true false true = refl
or_and_gathered false true false false = refl
or_and_gathered false false c d = refl

-- ---- a test that counts as one

pub none_counted : (n : ℕ) (b : Bool) → b ≡ false → n + cond b 1 0 ≡ n
none_counted n b h = rw h (omega arith)

pub counted_at_most_one : (b : Bool) → cond b 1 0 ≤ 1
counted_at_most_one true = omega arith
counted_at_most_one false = omega arith

pub counted_le : (a b : Bool) → (a ≡ true → b ≡ true) → cond a 1 0 ≤ cond b 1 0
counted_le true b f = let h : b ≡ true = f refl in rw h (omega arith)
counted_le false b f = omega arith
