-- The moves that lead to a place, read from the place before it.
use Rattle.std.proofs.Common.{ℕ, zero, suc, ◌≡◌, ◌<◌, ◌≤◌, ◌+◌, ◌-◌, List, [], ◌∷◌, ◌++◌, length, refl, sym, ◌∙◌, ap, subst, inl, inr, Bool, true, false, arith, Some, slice_get, slice_index_or, length-append, append_assoc}
use Rattle.std.proofs.lemmas.Option.{none-some, same_Some, slice_get-get_or, slice_get_within}
use Rattle.std.proofs.lemmas.List.{get_or_append_left, append-nil}
use Rattle.std.specs.Prelude.{if◌then◌else◌}
use Rattle.search_core.specs.Node.{AreRooted, with_node, with_nodes, trails_of}
use Rattle.search_core.proofs.Pushed.{pushed_at}
use Rattle.search_core.specs.declared.nodes.Node.{Node}

-- one more at the end
pub one_behind : (trails : List (List ℕ)) (nodes : List Node) (node : Node) → with_nodes trails (nodes ++ node ∷ []) ≡ with_node (with_nodes trails nodes) node
one_behind trails [] node = refl
one_behind trails (n ∷ nodes) node = one_behind (with_node trails n) nodes node

pub length_with : (trails : List (List ℕ)) (nodes : List Node) → length (with_nodes trails nodes) ≡ length trails + length nodes
length_with trails [] = omega arith
length_with trails (n ∷ nodes) =
    let a : length (with_nodes (with_node trails n) nodes) ≡ length (with_node trails n) + length nodes = length_with (with_node trails n) nodes in
    let b : length (with_node trails n) ≡ length trails + 1 = length-append trails ((n.last ∷ slice_index_or trails n.before []) ∷ []) in
    omega arith

-- what was there stays
kept_in : (trails : List (List ℕ)) (nodes : List Node) (k : ℕ) → k < length trails → slice_index_or (with_nodes trails nodes) k [] ≡ slice_index_or trails k []
kept_in trails [] k l = refl
kept_in trails (n ∷ nodes) k l =
    let b : length (with_node trails n) ≡ length trails + 1 = length-append trails ((n.last ∷ slice_index_or trails n.before []) ∷ []) in
    kept_in (with_node trails n) nodes k (omega arith)
    ∙ get_or_append_left trails ((n.last ∷ slice_index_or trails n.before []) ∷ []) [] k l

added : (trails : List (List ℕ)) (p : List ℕ) → slice_index_or (trails ++ p ∷ []) (length trails) [] ≡ p
added [] p = refl
added (t ∷ trails) p = added trails p

-- the moves to a place are one more than those to the place before it
from_before : (trails : List (List ℕ)) (nodes : List Node) (j : ℕ) (n : Node) → slice_get nodes j ≡ Some n → n.before < length trails + j → slice_index_or (with_nodes trails nodes) (length trails + j) [] ≡ n.last ∷ slice_index_or (with_nodes trails nodes) n.before []
from_before trails [] j n e l = absurd (none-some n e)
from_before trails (m ∷ nodes) zero n e l =
    let s : m ≡ n = same_Some m n e in
    let y : List ℕ = m.last ∷ slice_index_or trails m.before [] in
    let w : length (with_node trails m) ≡ length trails + 1 = length-append trails (y ∷ []) in
    let b : n.before < length trails = omega arith in
    let o : length trails + 0 ≡ length trails = omega arith in
    ap (λ (z : ℕ). slice_index_or (with_nodes (with_node trails m) nodes) z []) o
    ∙ kept_in (with_node trails m) nodes (length trails) (omega arith)
    ∙ added trails y
    ∙ ap (λ (z : Node). z.last ∷ slice_index_or trails z.before []) s
    ∙ ap (λ (z : List ℕ). n.last ∷ z) (sym (kept_in trails (m ∷ nodes) n.before b))
from_before trails (m ∷ nodes) (suc j) n e l =
    let y : List ℕ = m.last ∷ slice_index_or trails m.before [] in
    let w : length (with_node trails m) ≡ length trails + 1 = length-append trails (y ∷ []) in
    let o : length trails + suc j ≡ length (with_node trails m) + j = omega arith in
    ap (λ (z : ℕ). slice_index_or (with_nodes (with_node trails m) nodes) z []) o ∙ from_before (with_node trails m) nodes j n e (omega arith)

pub length_trails : (nodes : List Node) → length (trails_of nodes) ≡ length nodes + 1
length_trails nodes = let h : length (trails_of nodes) ≡ 1 + length nodes = length_with ([] ∷ []) nodes in omega arith

-- what was gone back over, and what is left to go
pub one_back : (nodes : List Node) (place : ℕ) (n : Node) (back : List ℕ) (whole : List ℕ) → 0 < place → slice_get nodes (place - 1) ≡ Some n → n.before ≤ place - 1 → back ++ slice_index_or (trails_of nodes) place [] ≡ whole → (back ++ n.last ∷ []) ++ slice_index_or (trails_of nodes) n.before [] ≡ whole
one_back nodes place n back whole l e b h =
    let o : 1 + (place - 1) ≡ place = omega arith in
    let f : slice_index_or (trails_of nodes) place [] ≡ n.last ∷ slice_index_or (trails_of nodes) n.before [] =
    ap (λ (z : ℕ). slice_index_or (trails_of nodes) z []) (sym o) ∙ from_before ([] ∷ []) nodes (place - 1) n e (omega arith) in
    append_assoc back (n.last ∷ []) (slice_index_or (trails_of nodes) n.before []) ∙ ap (λ (z : List ℕ). back ++ z) (sym f) ∙ h

pub first_trail : (nodes : List Node) → slice_index_or (trails_of nodes) 0 [] ≡ []
first_trail nodes = kept_in ([] ∷ []) nodes 0 (omega arith)

-- what was gone back over, all the way
pub all_back : (nodes : List Node) (at place : ℕ) (back : List ℕ) → at ≤ length nodes → place ≤ 0 → back ++ slice_index_or (trails_of nodes) place [] ≡ slice_index_or (trails_of nodes) at [] → slice_get (trails_of nodes) at ≡ Some back
all_back nodes at place back l z h =
    let o : place ≡ 0 = omega arith in
    let t : slice_index_or (trails_of nodes) place [] ≡ [] = ap (λ (y : ℕ). slice_index_or (trails_of nodes) y []) o ∙ first_trail nodes in
    let e : back ≡ slice_index_or (trails_of nodes) at [] = sym (append-nil back) ∙ ap (λ (y : List ℕ). back ++ y) (sym t) ∙ h in
    let n : length (trails_of nodes) ≡ length nodes + 1 = length_trails nodes in
    slice_get-get_or (trails_of nodes) at [] (omega arith) ∙ ap Some (sym e)

pub pushed_behind : (nodes new : List Node) (node : Node) → new ≡ nodes ++ node ∷ [] → trails_of new ≡ with_node (trails_of nodes) node
pushed_behind nodes new node e = ap trails_of e ∙ one_behind ([] ∷ []) nodes node

-- each place is still behind one with a lower number
pub rooted_behind : (nodes : List Node) (node : Node) → AreRooted nodes → node.before ≤ length nodes → AreRooted (nodes ++ node ∷ [])
rooted_behind nodes node rooted behind k n e =
    elim (pushed_at nodes node k n e) [
      | inl h ↦ rooted k n h
      | inr h ↦ (let at : k ≡ length nodes = h.0 in
          subst (λ (z : Node). z.before ≤ k) h.1 (omega (arith, at, behind)))
    ]

pub still_rooted : (nodes new : List Node) (node : Node) (pushed : Bool) → AreRooted nodes → node.before ≤ length nodes
    → new ≡ (if pushed then nodes ++ node ∷ [] else nodes) → AreRooted new
still_rooted nodes new node true rooted behind e = subst AreRooted (sym e) (rooted_behind nodes node rooted behind)
still_rooted nodes new node false rooted behind e = subst AreRooted (sym e) rooted

pub at_most_all : (nodes : List Node) (at : ℕ) (p : List ℕ) → slice_get (trails_of nodes) at ≡ Some p → at ≤ length nodes
at_most_all nodes at p e =
    let l : at < length (trails_of nodes) = slice_get_within (trails_of nodes) at p e in
    let n : length (trails_of nodes) ≡ length nodes + 1 = length_trails nodes in
    omega arith
