-- Tapes as they are lent, and the draws on them.
--     tape_back        a tape of the right length is what its draws fill
--     read_written     reading what was written
--     written-read     writing what was read
--     tapes_length     the three tapes have 2I + 6A bits;  written_length: so have written ones
--     draws_all        what holds of every bit of the tapes, and of 0, holds of every draw;  written_all: and back
-- Assumes nothing.
use mathlib.Core.Path.{◌≡◌, refl, sym, ap, ap₂, ◌∙◌}
use mathlib.Core.Bool.{cond}
use mathlib.Core.List.{List, [], ◌∷◌, ◌++◌, append_assoc, append-nil}
use Prim.Native.Nat.{ℕ, zero, suc, ◌+◌, ◌*◌, ◌≤◌}
use native.Mathlib.Omega.{arith}
use native.Mathlib.Numerals.{add-one}
use native.Mathlib.Nat.{add-zero}
use lib.ListN.{length, get_or, take, drop, length-append, length-drop, take-append-drop}
use lib.Seq.{take-suc, take-length, take_at, drop_at, length-take-le, drop-drop, get_or-drop}
use Rattle.theory_sharing.specs.Sites.{Site, s1, s2, s3, Trio, of, is, if_own}
use Rattle.theory_sharing.specs.Circuit.{Gate, XOR, AND, OR, NOT, Circuit, Draws, dealing, ands, owned, all_ands, all_owned}
use Rattle.theory_sharing.specs.Order.{if_deals}
use Rattle.theory_sharing.specs.Tapes.{tape_length, tapes_sum, cut, join, draws, read, ins_tape, tape, written}
use Rattle.theory_sharing.proofs.Parts.{AllDraws}
use Rattle.theory_sharing.proofs.SiteLaws.{Seen, itself, behind, before, seen, is_itself, is_behind, is_before, own_itself, own_behind, own_before}

take_two : (l : List ℕ) (n : ℕ) → 2 * (n + 1) ≤ length l → take (2 * (n + 1)) l ≡ take (2 * n) l ++ (get_or l (2 * n) 0 ∷ get_or l (2 * n + 1) 0 ∷ [])
take_two l n h =
    ap (λ (z : ℕ). take z l) (let e : 2 * (n + 1) ≡ suc (suc (2 * n)) = omega arith in e)
    ∙ take-suc l (suc (2 * n)) 0 (omega arith)
    ∙ ap (λ z. z ++ (get_or l (suc (2 * n)) 0 ∷ [])) (take-suc l (2 * n) 0 (omega arith))
    ∙ append_assoc (take (2 * n) l) _ _
    ∙ ap (λ (z : ℕ). take (2 * n) l ++ (get_or l (2 * n) 0 ∷ get_or l z 0 ∷ [])) (sym (add-one (2 * n)))

-- one for the site itself, none for another
abbrev one_if : Site → Site → ℕ
one_if s t = cond (is s t) 1 0

-- one input more, on the tape of s
step_in : (s t : Site) → Seen s t → (l l' : List ℕ) (n n' : ℕ) → (t ≡ s → (l' ≡ l) × (n' ≡ n)) → 2 * (n + one_if s t) ≤ length l
    → take (2 * n) l ++ if_own s t (get_or l' (2 * n') 0 ∷ get_or l' (2 * n' + 1) 0 ∷ []) ≡ take (2 * (n + one_if s t)) l
step_in s t itself l l' n n' e h =
    ap (λ z. take (2 * n) l ++ z) (own_itself s _ ∙ ap₂ (λ (m : List ℕ) (k : ℕ). get_or m (2 * k) 0 ∷ get_or m (2 * k + 1) 0 ∷ []) (e refl).0 (e refl).1)
    ∙ sym (ap (λ b. take (2 * (n + cond b 1 0)) l) (is_itself s) ∙ take_two l n (rw is_itself at h))
step_in s t behind l l' n n' e h =
    ap (λ z. take (2 * n) l ++ z) (own_behind s _) ∙ append-nil _ ∙ sym (ap (λ b. take (2 * (n + cond b 1 0)) l) (is_behind s) ∙ ap (λ (z : ℕ). take (2 * z) l) (add-zero n))
step_in s t before l l' n n' e h =
    ap (λ z. take (2 * n) l ++ z) (own_before s _) ∙ append-nil _ ∙ sym (ap (λ b. take (2 * (n + cond b 1 0)) l) (is_before s) ∙ ap (λ (z : ℕ). take (2 * z) l) (add-zero n))

-- one gate more
step_gate : (k : Gate) (l : List ℕ) (n : ℕ) → 2 * (n + dealing k) ≤ length l
    → take (2 * n) l ++ if_deals k (get_or l (2 * n) 0 ∷ get_or l (2 * n + 1) 0 ∷ []) ≡ take (2 * (n + dealing k)) l
unfolding dealing if_deals
step_gate (XOR i j) l n h = append-nil _ ∙ ap (λ (z : ℕ). take (2 * z) l) (sym (add-zero n))
step_gate (AND i j) l n h = sym (take_two l n h)
step_gate (OR i j) l n h = sym (take_two l n h)
step_gate (NOT i) l n h = append-nil _ ∙ ap (λ (z : ℕ). take (2 * z) l) (sym (add-zero n))

module _ (C : Circuit) (ls : Trio (List ℕ)) (s : Site) where
  ins_back : (i : ℕ) → 2 * owned C.owner s i ≤ length (of ls s) → ins_tape C (draws C ls) s i ≡ take (2 * owned C.owner s i) (of ls s)
  unfolding ins_tape draws owned
  ins_back zero h = refl
  ins_back (suc i) h =
      ap (λ z. z ++ if_own s (C.owner i) ((draws C ls).in1 i ∷ (draws C ls).in2 i ∷ [])) (ins_back i (omega arith))
      ∙ step_in s (C.owner i) (seen s (C.owner i)) (of ls s) (of ls (C.owner i)) (owned C.owner s i) (owned C.owner (C.owner i) i)
      (λ e. (ap (of ls) e, ap (λ z. owned C.owner z i) e)) h

  gates_back : (g : ℕ) → 2 * (all_owned C s + ands C.gate g) ≤ length (of ls s)
      → tape C (draws C ls) s g ≡ take (2 * (all_owned C s + ands C.gate g)) (of ls s)
  unfolding tape draws ands
  gates_back zero h = ins_back C.ins (omega arith) ∙ ap (λ (z : ℕ). take (2 * z) (of ls s)) (sym (add-zero (all_owned C s)))
  gates_back (suc g) h =
      let n = all_owned C s + ands C.gate g in
      let e : all_owned C s + (ands C.gate g + dealing (C.gate g)) ≡ n + dealing (C.gate g) = omega arith in
      ap (λ z. z ++ if_deals (C.gate g) ((draws C ls).g1 g s ∷ (draws C ls).g2 g s ∷ [])) (gates_back g (omega arith))
      ∙ step_gate (C.gate g) (of ls s) n (omega arith)
      ∙ ap (λ (z : ℕ). take (2 * z) (of ls s)) (sym e)

  pub tape_back : length (of ls s) ≡ tape_length C s → tape C (draws C ls) s C.gates ≡ of ls s
  unfolding tape_length
  tape_back h = gates_back C.gates (omega arith) ∙ ap (λ (z : ℕ). take z (of ls s)) (sym h) ∙ take-length (of ls s)

own_two : (s t : Site) → Seen s t → (a b : ℕ) → length (if_own s t (a ∷ b ∷ [])) ≡ 2 * one_if s t
own_two s t itself a b = ap length (own_itself s _) ∙ ap (λ c. 2 * cond c 1 0) (sym (is_itself s))
own_two s t behind a b = ap length (own_behind s _) ∙ ap (λ c. 2 * cond c 1 0) (sym (is_behind s))
own_two s t before a b = ap length (own_before s _) ∙ ap (λ c. 2 * cond c 1 0) (sym (is_before s))

pub deals_many : {A : Type 0} (k : Gate) (l : List A) → length (if_deals k l) ≡ dealing k * length l
unfolding if_deals dealing
deals_many (XOR i j) l = omega arith
deals_many (AND i j) l = omega arith
deals_many (OR i j) l = omega arith
deals_many (NOT i) l = omega arith

module _ (C : Circuit) (T : Draws) (s : Site) where
  pub ins_length : (i : ℕ) → length (ins_tape C T s i) ≡ 2 * owned C.owner s i
  unfolding ins_tape owned
  ins_length zero = refl
  ins_length (suc i) =
      length-append (ins_tape C T s i) _
      ∙ (let p = ins_length i in let q = own_two s (C.owner i) (seen s (C.owner i)) (T.in1 i) (T.in2 i) in omega arith)

  pub gates_length : (g : ℕ) → length (tape C T s g) ≡ 2 * (all_owned C s + ands C.gate g)
  unfolding tape ands
  gates_length zero = let p = ins_length C.ins in omega arith
  gates_length (suc g) =
      length-append (tape C T s g) _
      ∙ (let p = gates_length g in let q = deals_many (C.gate g) (T.g1 g s ∷ T.g2 g s ∷ []) in omega arith)

pub record Sized (C : Circuit) (ls : Trio (List ℕ)) : Type 0 where
  pub sized : (s : Site) → length (of ls s) ≡ tape_length C s

abbrev tapes_of : Circuit → Draws → Trio (List ℕ)
tapes_of C T = record { at1 = tape C T s1 C.gates; at2 = tape C T s2 C.gates; at3 = tape C T s3 C.gates }

tapes_at : (C : Circuit) (T : Draws) (s : Site) → of (tapes_of C T) s ≡ tape C T s C.gates
tapes_at C T s1 = refl
tapes_at C T s2 = refl
tapes_at C T s3 = refl

tapes_sized : (C : Circuit) (T : Draws) → Sized C (tapes_of C T)
unfolding tape_length
tapes_sized C T = record { sized = λ s. ap length (tapes_at C T s) ∙ gates_length C T s C.gates }

cut_join : (C : Circuit) (ls : Trio (List ℕ)) → Sized C ls → cut C (join ls) ≡ ls
cut_join C ls h = λ i. record { at1 = e1 i; at2 = e2 i; at3 = e3 i }
  where
    as1 : join ls ≡ ls.at1 ++ (ls.at2 ++ ls.at3)
    as1 = append_assoc ls.at1 ls.at2 ls.at3

    e1 : take (tape_length C s1) (join ls) ≡ ls.at1
    e1 = ap (take (tape_length C s1)) as1 ∙ take_at ls.at1 _ _ (h.sized s1)

    e2 : take (tape_length C s2) (drop (tape_length C s1) (join ls)) ≡ ls.at2
    e2 = ap (λ l. take (tape_length C s2) (drop (tape_length C s1) l)) as1 ∙ ap (take (tape_length C s2)) (drop_at ls.at1 _ _ (h.sized s1)) ∙ take_at ls.at2 _ _ (h.sized s2)

    e3 : drop (tape_length C s1 + tape_length C s2) (join ls) ≡ ls.at3
    e3 = drop_at (ls.at1 ++ ls.at2) ls.at3 _ (length-append ls.at1 ls.at2 ∙ ap₂ ◌+◌ (h.sized s1) (h.sized s2))

pub join_cut : (C : Circuit) (t : List ℕ) → join (cut C t) ≡ t
join_cut C t =
    append_assoc (take (tape_length C s1) t) _ _
    ∙ ap (λ l. take (tape_length C s1) t ++ (take (tape_length C s2) (drop (tape_length C s1) t) ++ l)) (sym (drop-drop (tape_length C s2) (tape_length C s1) t))
    ∙ ap (λ l. take (tape_length C s1) t ++ l) (take-append-drop (tape_length C s2) (drop (tape_length C s1) t))
    ∙ take-append-drop (tape_length C s1) t

pub cut_sized : (C : Circuit) (t : List ℕ) → length t ≡ tapes_sum C → Sized C (cut C t)
cut_sized C t h = record { sized = go }
  where
    go : (s : Site) → length (of (cut C t) s) ≡ tape_length C s
    go s1 = length-take-le (tape_length C s1) t (omega arith)
    go s2 = let k = length-drop (tape_length C s1) t in length-take-le (tape_length C s2) (drop (tape_length C s1) t) (omega arith)
    go s3 = let k = length-drop (tape_length C s1 + tape_length C s2) t in omega arith

pub read_written : (C : Circuit) (T : Draws) (t : Site) → tape C (read C (written C T)) t C.gates ≡ tape C T t C.gates
read_written C T t =
    ap (λ ls. tape C (draws C ls) t C.gates) (cut_join C (tapes_of C T) (tapes_sized C T))
    ∙ tape_back C (tapes_of C T) t ((tapes_sized C T).sized t) ∙ tapes_at C T t

-- the tape of a site, as its draws fill it
pub read_tape : (C : Circuit) (t : List ℕ) → length t ≡ tapes_sum C → (s : Site) → tape C (read C t) s C.gates ≡ of (cut C t) s
read_tape C t h s = tape_back C (cut C t) s ((cut_sized C t h).sized s)

-- a slice is known from the tapes that its draws fill
pub written_is : (C : Circuit) (t : List ℕ) (T : Draws) → length t ≡ tapes_sum C → ((s : Site) → tape C (read C t) s C.gates ≡ tape C T s C.gates) → t ≡ written C T
written_is C t T h e =
    sym (join_cut C t)
    ∙ ap₂ ◌++◌ (ap₂ ◌++◌ (sym (read_tape C t h s1) ∙ e s1) (sym (read_tape C t h s2) ∙ e s2)) (sym (read_tape C t h s3) ∙ e s3)

pub written_length : (C : Circuit) (T : Draws) → length (written C T) ≡ tapes_sum C
written_length C T =
    length-append (tape C T s1 C.gates ++ tape C T s2 C.gates) _
    ∙ ap₂ ◌+◌ (length-append (tape C T s1 C.gates) _ ∙ ap₂ ◌+◌ ((tapes_sized C T).sized s1) ((tapes_sized C T).sized s2)) ((tapes_sized C T).sized s3)

-- every input has one owner
owned_sum : (f : ℕ → Site) (i : ℕ) → owned f s1 i + owned f s2 i + owned f s3 i ≡ i
unfolding owned is
owned_sum f zero = refl
owned_sum f (suc i) = go (f i) (owned_sum f i)
  where
    go : (t : Site) → owned f s1 i + owned f s2 i + owned f s3 i ≡ i → owned f s1 i + one_if s1 t + (owned f s2 i + one_if s2 t) + (owned f s3 i + one_if s3 t) ≡ suc i
    go s1 h = omega arith
    go s2 h = omega arith
    go s3 h = omega arith

-- 01: "in all 2I+6A"
pub tapes_length : (C : Circuit) → tapes_sum C ≡ 2 * C.ins + 6 * all_ands C
unfolding tape_length
tapes_length C = let h = owned_sum C.owner C.ins in omega arith

-- a fact of every entry
module _ (P : ℕ → Type 0) (p0 : P 0) where
  abbrev pub AllIn : List ℕ → Type 0
  AllIn l = (k : ℕ) → P (get_or l k 0)

  nil_all : AllIn []
  nil_all k = p0

  cons_all : (a : ℕ) (l : List ℕ) → P a → AllIn l → AllIn (a ∷ l)
  cons_all a l h k zero = h
  cons_all a l h k (suc n) = k n

  pub append_all : (l m : List ℕ) → AllIn l → AllIn m → AllIn (l ++ m)
  append_all [] m h k = k
  append_all (a ∷ l) m h k = cons_all a (l ++ m) (h 0) (append_all l m (λ n. h (suc n)) k)

  take_all_in : (n : ℕ) (l : List ℕ) → AllIn l → AllIn (take n l)
  take_all_in zero l h = nil_all
  take_all_in (suc n) [] h = nil_all
  take_all_in (suc n) (a ∷ l) h = cons_all a (take n l) (h 0) (take_all_in n l (λ k. h (suc k)))

  drop_all_in : (n : ℕ) (l : List ℕ) → AllIn l → AllIn (drop n l)
  drop_all_in n l h k = rw (get_or-drop n l k 0) (h (n + k))

  cut_all : (C : Circuit) (t : List ℕ) → AllIn t → (s : Site) → AllIn (of (cut C t) s)
  cut_all C t h s1 = take_all_in (tape_length C s1) t h
  cut_all C t h s2 = take_all_in (tape_length C s2) (drop (tape_length C s1) t) (drop_all_in (tape_length C s1) t h)
  cut_all C t h s3 = drop_all_in (tape_length C s1 + tape_length C s2) t h

  pub draws_all : (C : Circuit) (t : List ℕ) → AllIn t → AllDraws P (read C t)
  unfolding draws
  draws_all C t h = record {
    of_in1 = λ i. cut_all C t h (C.owner i) _;
    of_in2 = λ i. cut_all C t h (C.owner i) _;
    of_g1 = λ g s. cut_all C t h s _;
    of_g2 = λ g s. cut_all C t h s _;
  }

  own_all : (s t : Site) → Seen s t → (a b : ℕ) → P a → P b → AllIn (if_own s t (a ∷ b ∷ []))
  own_all s t itself a b ha hb = rw (own_itself s (a ∷ b ∷ [])) (cons_all a (b ∷ []) ha (cons_all b [] hb nil_all))
  own_all s t behind a b ha hb = rw (own_behind s (a ∷ b ∷ [])) nil_all
  own_all s t before a b ha hb = rw (own_before s (a ∷ b ∷ [])) nil_all

  deals_all : (k : Gate) (a b : ℕ) → P a → P b → AllIn (if_deals k (a ∷ b ∷ []))
  unfolding if_deals
  deals_all (XOR i j) a b ha hb = nil_all
  deals_all (AND i j) a b ha hb = cons_all a (b ∷ []) ha (cons_all b [] hb nil_all)
  deals_all (OR i j) a b ha hb = cons_all a (b ∷ []) ha (cons_all b [] hb nil_all)
  deals_all (NOT i) a b ha hb = nil_all

  module _ (C : Circuit) (T : Draws) (h : AllDraws P T) (s : Site) where
    ins_all : (i : ℕ) → AllIn (ins_tape C T s i)
    unfolding ins_tape
    ins_all zero = nil_all
    ins_all (suc i) = append_all (ins_tape C T s i) _ (ins_all i) (own_all s (C.owner i) (seen s (C.owner i)) _ _ (h.of_in1 i) (h.of_in2 i))

    tape_all : (g : ℕ) → AllIn (tape C T s g)
    unfolding tape
    tape_all zero = ins_all C.ins
    tape_all (suc g) = append_all (tape C T s g) _ (tape_all g) (deals_all (C.gate g) _ _ (h.of_g1 g s) (h.of_g2 g s))

  pub written_all : (C : Circuit) (T : Draws) → AllDraws P T → AllIn (written C T)
  written_all C T h =
      append_all (tape C T s1 C.gates ++ tape C T s2 C.gates) _
      (append_all (tape C T s1 C.gates) _ (tape_all C T h s1 C.gates) (tape_all C T h s2 C.gates)) (tape_all C T h s3 C.gates)
