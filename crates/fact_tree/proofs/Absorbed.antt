-- A node among several takes the lists of a higher one.
use Rattle.std.proofs.Common.{◌≡◌, ℕ, ◌+◌, ◌<◌, List, ◌++◌, length, drop, get_or, ap, sym, subst, ◌∙◌, arith}
use Rattle.std.proofs.Common.{get_or-set_same}
use Rattle.std.specs.Prelude.{slice_set}
use Rattle.std.proofs.lemmas.List.{set-append_left, length-append, get_or-drop, get_or_default}
use Rattle.std.proofs.Math.ListN.{get_or-append}
use Rattle.fact_tree.specs.Kept.{Lists, bare, absorbing, Begins}
use Rattle.fact_tree.specs.Entries.{AreLonger}

front_is : (ns front back : List Lists) (low : ℕ) (a : Lists) → ns ≡ front ++ back → low < length front
    → a ≡ get_or front low a → a ≡ get_or ns low bare
front_is ns front back low a whole lt at =
    at ∙ get_or_default front low a bare lt ∙ sym (get_or-append front back bare low lt)
    ∙ ap (λ (us : List Lists). get_or us low bare) (sym whole)

back_is : (ns back : List Lists) (high : ℕ) (b : Lists) → back ≡ drop high ns → 0 < length back → b ≡ get_or back 0 b
    → b ≡ get_or ns high bare
back_is ns back high b dropped some at =
    at ∙ get_or_default back 0 b bare some ∙ ap (λ (us : List Lists). get_or us 0 bare) dropped
    ∙ get_or-drop high ns 0 bare ∙ ap (λ (n : ℕ). get_or ns n bare) (let e : high + 0 ≡ high = omega arith in e)

set_is : (ns front back : List Lists) (low : ℕ) (v : Lists) → ns ≡ front ++ back → low < length front
    → slice_set front low v ++ back ≡ slice_set ns low v
set_is ns front back low v whole lt =
    sym (set-append_left front back low v lt) ∙ ap (λ (us : List Lists). slice_set us low v) (sym whole)

pub absorbed : (ns front back : List Lists) (high low : ℕ) (a b v : Lists) → ns ≡ front ++ back → back ≡ drop high ns
    → length front ≡ high → low < high → high < length ns
    → a ≡ get_or front low a → b ≡ get_or back 0 b → v ≡ absorbing b a
    → slice_set front low v ++ back ≡ slice_set ns low (absorbing (get_or ns high bare) (get_or ns low bare))
absorbed ns front back high low a b v whole dropped len lt within at-a at-b is =
    let inside : low < length front = omega (arith, len, lt) in
    let some : 0 < length back = omega (arith, within, len, ap length whole, length-append front back) in
    set_is ns front back low v whole inside
    ∙ ap (slice_set ns low)
    (is
    ∙ (λ i. absorbing (back_is ns back high b dropped some at-b i) (front_is ns front back low a whole inside at-a i)))

pub longer : (ns front back : List Lists) (high low : ℕ) (a v : Lists) → ns ≡ front ++ back → length front ≡ high
    → low < high → high < length ns
    → a ≡ get_or front low a → Begins a v → v.members ≡ a.members → AreLonger low ns (slice_set front low v ++ back)
longer ns front back high low a v whole len lt within at-a begins same =
    let inside : low < length front = omega (arith, len, lt) in
    let set = set_is ns front back low v whole inside in
    let is : get_or (slice_set front low v ++ back) low bare ≡ v =
    ap (λ (us : List Lists). get_or us low bare) set ∙ get_or-set_same ns low v bare (omega (arith, lt, within)) in
    record {
      nodes = set ∙ ap (slice_set ns low) (sym is);
      begins =
          subst (λ (u : Lists). Begins (get_or ns low bare) u) (sym is)
          (subst (λ (u : Lists). Begins u v) (front_is ns front back low a whole inside at-a) begins);
      members =
          ap (λ (u : Lists). u.members) is ∙ same
          ∙ ap (λ (u : Lists). u.members) (front_is ns front back low a whole inside at-a);
    }
