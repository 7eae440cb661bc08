-- What a fact changes is undone by the lengths before it.
use Rattle.std.proofs.Common.{◌≡◌, ℕ, zero, suc, ◌<◌, ◌≤◌, Bool, true, false, List, [], ◌∷◌, ◌++◌, length, take, drop}
use Rattle.std.proofs.Common.{get_or, refl, ap, sym, ◌∙◌, arith, get_or-set_same}
use Rattle.std.specs.Prelude.{◌==◌, if◌then◌else◌, slice_set}
use Rattle.std.proofs.lemmas.List.{length-take, length-set, length-append, set-append_left, set-get_or}
use Rattle.std.proofs.Math.Seq.{take-append_seam, drop-append_seam, take-length}
use Rattle.std.proofs.Math.ListN.{get_or-append, drop_of_length-le}
use Rattle.calculus_specs.specs.declared.facts.Fact.{Fact}
use Rattle.calculus_specs.specs.declared.facts.Fact.TheVariants.{Has, Edge, Apart, Same}
use Rattle.fact_tree.specs.Kept.{Lists, Kept, new_lists, bare, having, leading, parted, absorbing, Begins, cut_lists}
use Rattle.fact_tree.specs.Kept.{lists_at, changed_at, grown, made, linked, set_each, after_at}
use Rattle.fact_tree.specs.Entries.{lengths_of, undone, relinked, Undoes, IsPlace, IsLonger, HasMore}
use Rattle.fact_tree.proofs.Each.{length-set_each, put_back}
use Rattle.fact_tree.proofs.Growing.{begins_itself, begins_having, begins_leading, begins_parted, begins_absorbing}
use Rattle.fact_tree.proofs.Growing.{cut_begins}

-- ---- lists

pub set_twice : {X : Type 0} (xs : List X) (i : ℕ) (a b : X) → slice_set (slice_set xs i a) i b ≡ slice_set xs i b
set_twice [] i a b = refl
set_twice (x ∷ xs) zero a b = refl
set_twice (x ∷ xs) (suc i) a b = ap (λ (ys : List _). x ∷ ys) (set_twice xs i a b)

-- the element that was there is put again
pub set_back : {X : Type 0} (xs : List X) (i : ℕ) (a d : X) → slice_set (slice_set xs i a) i (get_or xs i d) ≡ xs
set_back xs i a d = set_twice xs i a (get_or xs i d) ∙ set-get_or xs i d

-- ---- a longer node

-- where the first nodes are as before but for one that is longer, and its new members are the links that differ, the
-- lengths lead back
pub leads_back : (k later : Kept) (at : ℕ) (m : Lists) → at < length k.nodes
    → take (length k.nodes) later.nodes ≡ slice_set k.nodes at m → Begins (lists_at k at) m
    → relinked (drop (length (lists_at k at).members) m.members) (take (length k.nodes) later.links) ≡ k.links
    → undone (lengths_of at k) later ≡ k
leads_back k later at m lt nodes begins links =
    let n = lists_at k at in
    let ns = take (length k.nodes) later.nodes in
    let is : get_or ns at bare ≡ m =
    ap (λ (us : List Lists). get_or us at bare) nodes ∙ get_or-set_same k.nodes at m bare lt in
    let links-back : relinked (drop (length n.members) (get_or ns at bare).members) (take (length k.nodes) later.links)
    ≡ k.links =
    ap (λ (u : Lists). relinked (drop (length n.members) u.members) (take (length k.nodes) later.links)) is ∙ links in
    let nodes-back :
    slice_set ns at
    (cut_lists (length n.members) (length n.concepts) (length n.edges) (length n.aparts) (get_or ns at bare))
    ≡ k.nodes =
    (λ i. slice_set (nodes i) at
    (cut_lists (length n.members) (length n.concepts) (length n.edges) (length n.aparts) (is i)))
    ∙ ap (slice_set (slice_set k.nodes at m) at) (cut_begins n m begins) ∙ set_back k.nodes at m bare in
    λ i. record { links = links-back i; nodes = nodes-back i }

-- ---- each fact

leads : (k later : Kept) (at high : ℕ) (m : Lists) → IsPlace at high k → length k.nodes ≤ length later.nodes
    → length k.nodes ≤ length later.links
    → take (length k.nodes) later.nodes ≡ slice_set k.nodes at m → Begins (lists_at k at) m
    → relinked (drop (length (lists_at k at).members) m.members) (take (length k.nodes) later.links) ≡ k.links
    → Undoes (lengths_of at k) later k
leads k later at high m p ln ll nodes begins links = record {
  back = leads_back k later at m p.node_exists nodes begins links;
  node = p.node_exists;
  nodes = ln;
  links = ll;
}

-- where there are no new members, the links are as they were
no_members : (n m : Lists) (ls ks : List ℕ) → m.members ≡ n.members → ls ≡ ks
    → relinked (drop (length n.members) m.members) ls ≡ ks
no_members n m ls ks same is =
    ap (λ (ms : List ℕ). relinked (drop (length n.members) ms) ls) same
    ∙ ap (λ (ms : List ℕ). relinked ms ls) (drop_of_length-le n.members (omega arith)) ∙ is

same_links : (k : Kept) (at high : ℕ) → IsPlace at high k → take (length k.nodes) k.links ≡ k.links
same_links k at high p = ap (λ (n : ℕ). take n k.links) (sym p.equal) ∙ take-length k.links

changed : (k : Kept) (at high : ℕ) (change : Lists → Lists) → IsPlace at high k
    → ((n : Lists) → (change n).members ≡ n.members) → Begins (lists_at k at) (change (lists_at k at))
    → Undoes (lengths_of at k) (changed_at at change k) k
changed k at high change p same begins =
    let n = lists_at k at in
    let nodes = slice_set k.nodes at (change n) in
    let len = length-set k.nodes at (change n) in
    leads k (changed_at at change k) at high (change n) p (omega (arith, len)) (omega (arith, p.equal))
    (ap (λ (i : ℕ). take i nodes) (sym len) ∙ take-length nodes) begins
    (no_members n (change n) (take (length k.nodes) k.links) k.links (same n) (same_links k at high p))

-- what was kept and was not changed leads back too
pub unchanged_back : (k : Kept) (at high : ℕ) → IsPlace at high k → Undoes (lengths_of at k) k k
unchanged_back k at high p =
    let n = lists_at k at in
    leads k k at high n p (omega arith) (omega (arith, p.equal))
    (take-length k.nodes ∙ sym (set-get_or k.nodes at bare)) (begins_itself n)
    (no_members n n (take (length k.nodes) k.links) k.links refl (same_links k at high p))

-- after a node more, and one that changed
grown_changed : (k : Kept) (at high : ℕ) (origin : ℕ × ℕ) (change : Lists → Lists) → IsPlace at high k
    → ((n : Lists) → (change n).members ≡ n.members) → Begins (lists_at k at) (change (lists_at k at))
    → Undoes (lengths_of at k) (changed_at at change (grown origin k)) k
grown_changed k at high origin change p same begins =
    let more = new_lists (length k.nodes) origin ∷ [] in
    let old = lists_at k at in
    let at-old : lists_at (grown origin k) at ≡ old = get_or-append k.nodes more bare at p.node_exists in
    let whole : slice_set (k.nodes ++ more) at (change (lists_at (grown origin k) at))
    ≡ slice_set k.nodes at (change old) ++ more =
    ap (λ (u : Lists). slice_set (k.nodes ++ more) at (change u)) at-old
    ∙ set-append_left k.nodes more at (change old) p.node_exists in
    let len = length-set k.nodes at (change old) in
    let all = length-append (slice_set k.nodes at (change old)) more in
    let cut : take (length k.nodes) (slice_set k.nodes at (change old) ++ more) ≡ slice_set k.nodes at (change old) =
    ap (λ (n : ℕ). take n (slice_set k.nodes at (change old) ++ more)) (sym len)
    ∙ take-append_seam (slice_set k.nodes at (change old)) more in
    let links : take (length k.nodes) (k.links ++ length k.links ∷ []) ≡ k.links =
    ap (λ (n : ℕ). take n (k.links ++ length k.links ∷ [])) (sym p.equal)
    ∙ take-append_seam k.links (length k.links ∷ []) in
    leads k (changed_at at change (grown origin k)) at high (change old) p
    (omega (arith, ap length whole, all, len)) (omega (arith, p.equal, length-append k.links (length k.links ∷ [])))
    (ap (take (length k.nodes)) whole ∙ cut) begins
    (no_members old (change old) (take (length k.nodes) (k.links ++ length k.links ∷ [])) k.links (same old) links)

made_changed : (k : Kept) (at high : ℕ) (origin : ℕ × ℕ) (to : ℕ) (change : Lists → Lists) → IsPlace at high k
    → ((n : Lists) → (change n).members ≡ n.members) → Begins (lists_at k at) (change (lists_at k at))
    → Undoes (lengths_of at k) (changed_at at change (made origin to k)) k
made_changed k at high origin to change p same begins = by (to == length k.nodes)
  where
    by : (b : Bool) → Undoes (lengths_of at k) (changed_at at change (if b then grown origin k else k)) k
    by true = grown_changed k at high origin change p same begins
    by false = changed k at high change p same begins

linked_back : (k : Kept) (at high : ℕ) → IsPlace at high k → Undoes (lengths_of at k) (linked high at k) k
linked_back k at high p =
    let n = lists_at k at in
    let hs = (lists_at k high).members in
    let m = absorbing (lists_at k high) n in
    let nodes = slice_set k.nodes at m in
    let links = set_each hs at k.links in
    let len = length-set k.nodes at m in
    let all = length-set_each hs at k.links in
    let whole : take (length k.nodes) links ≡ links =
    ap (λ (i : ℕ). take i links) (sym (all ∙ p.equal)) ∙ take-length links in
    leads k (linked high at k) at high m p (omega (arith, len)) (omega (arith, all, p.equal))
    (ap (λ (i : ℕ). take i nodes) (sym len) ∙ take-length nodes) (begins_absorbing n (lists_at k high))
    ((λ i. relinked (drop-append_seam n.members hs i) (whole i)) ∙ ap (λ (w : ℕ). set_each hs w links) p.head
    ∙ put_back hs at high k.links p.own)

joined_back : (k : Kept) (at high : ℕ) → IsPlace at high k
    → Undoes (lengths_of at k) (if at == high then k else linked high at k) k
joined_back k at high p = by (at == high)
  where
    by : (b : Bool) → Undoes (lengths_of at k) (if b then k else linked high at k) k
    by true = unchanged_back k at high p
    by false = linked_back k at high p

pub after_back : (k : Kept) (at high : ℕ) (f : Fact ℕ) → IsPlace at high k
    → Undoes (lengths_of at k) (after_at at high f k) k
after_back k at high (Has y c) p =
    changed k at high (having c) p (λ n. refl)
    (begins_having (lists_at k at) (lists_at k at) c (begins_itself (lists_at k at)))
after_back k at high (Edge r y z) p =
    made_changed k at high (r, y) z (leading r z) p (λ n. refl) (begins_leading (lists_at k at) r z)
after_back k at high (Apart y z) p = changed k at high (parted z) p (λ n. refl) (begins_parted (lists_at k at) z)
after_back k at high (Same y z) p = joined_back k at high p

-- ---- where memory is refused

pub longer_back : (k later : Kept) (at high : ℕ) → IsPlace at high k → IsLonger at k later
    → Undoes (lengths_of at k) later k
longer_back k later at high p longer =
    let n = lists_at k at in
    let m = lists_at later at in
    let len : length later.nodes ≡ length k.nodes = ap length longer.lists.nodes ∙ length-set k.nodes at m in
    leads k later at high m p (omega (arith, len)) (omega (arith, p.equal, ap length longer.links))
    (ap (λ (i : ℕ). take i later.nodes) (sym len) ∙ take-length later.nodes ∙ longer.lists.nodes) longer.lists.begins
    (no_members n m (take (length k.nodes) later.links) k.links longer.lists.members
    (ap (take (length k.nodes)) longer.links ∙ same_links k at high p))

pub more_back : (k later : Kept) (at high : ℕ) → IsPlace at high k → HasMore k later → Undoes (lengths_of at k) later k
more_back k later at high p more =
    let n = lists_at k at in
    leads k later at high n p
    (omega (arith, ap length (sym more.nodes), length-take (length k.nodes) later.nodes))
    (omega (arith, p.equal, ap length (sym more.links), length-take (length k.links) later.links))
    (more.nodes ∙ sym (set-get_or k.nodes at bare)) (begins_itself n)
    (no_members n n (take (length k.nodes) later.links) k.links refl
    (ap (λ (i : ℕ). take i later.links) (sym p.equal) ∙ more.links))
