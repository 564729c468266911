-- What the calls on a circuit file answer where it is a good text's.
--     file_checked            its counts: I, G and O
--     file_size               its length
--     file_gate, file_owner, file_output    gate, owner and output by number
--     file_plain, file_opens  plain values at its outputs, and what a clean run opens: the text's outputs
--     outs_many               how many those are
--     told_file               the file is what stands in front in the room where the call answers good
-- Assumes nothing.
use mathlib.Core.Path.{◌≡◌, sym, ap, ◌∙◌, subst}
use mathlib.Core.List.{List, [], ◌∷◌, map, flat_map}
use Prim.Native.Nat.{ℕ, zero, suc, ◌+◌, ◌-◌, ◌<◌}
use native.Mathlib.Omega.{arith}
use lib.ListN.{length, get_or, take, drop, length-map}
use Rattle.theory_calls.specs.File.{size, circuit, outputs_of}
use Rattle.theory_calls.specs.Answer.{good}
use Rattle.theory_calls.specs.Calls.{Call, GateAt, OwnerAt, OutputAt, Check, Plain, Run, does, Accepts, buffer}
use Rattle.theory_calls.specs.Statements.{bit_family, Bits, Clean}
use Rattle.theory_calls.proofs.FamilyLaws.{bit_lawful, bits_fit}
use Rattle.theory_calls.proofs.CallLaws.{good_accepts}
use Rattle.theory_calls.proofs.Demand2.{clean_opens_plain}
use Rattle.theory_files.specs.Written.{Numbers3}
use Rattle.theory_files.proofs.ReadBack.{length_file}
use Rattle.theory_files.proofs.Asked.{check_told, gate_told, owner_told, output_told, plain_told, plain_outs_at, opened_thrice}
use Rattle.bristol_text.specs.Words.{lines}
use Rattle.bristol_text.specs.Lines.{total}
use Rattle.bristol_text.specs.Heard.{Heard, heard, count_up, out_wires}
use Rattle.bristol_text.specs.Meaning.{text_outs}
use Rattle.bristol_text.specs.Renamed.{renamed, spread, text_file}
use Rattle.bristol_text.specs.Order.{our_gates}
use Rattle.bristol_text.specs.Call.{FromBristol}
use Rattle.bristol_text.specs.Good.{Good}
use Rattle.bristol_text.proofs.TextFile.{count_length, fair, limits, owners_long, outs_long, same_outputs, gates_in_order, counts_told}
use Rattle.bristol_text.proofs.WholeCall.{call_answers, call_writes}

-- wire a + k of those from a on
counted_at : (f : ℕ → ℕ) (a n k : ℕ) → k < n → get_or (map f (count_up a n)) k 0 ≡ f (a + k)
unfolding count_up
counted_at f a zero k l = absurd (omega arith)
counted_at f a (suc n) zero l = ap f (omega arith)
counted_at f a (suc n) (suc k) l = counted_at f (suc a) n k (omega arith) ∙ ap f (omega arith)

pub outs_many : (text xs : List ℕ) → length (text_outs text xs) ≡ total (heard (lines text)).outs
unfolding text_outs
outs_many text xs = length-map (out_wires (heard (lines text))) _ ∙ count_length _ _

module _ (text owners : List ℕ) (ok : Good (lines text) owners) where
  abbrev h : Heard
  h = heard (lines text)

  abbrev f : List ℕ
  f = text_file text owners

  abbrev I : ℕ
  I = total h.ins

  abbrev G : ℕ
  G = length (renamed h).gates

  abbrev O : ℕ
  O = total h.outs

  abbrev os : List ℕ
  os = spread owners h.ins

  abbrev ws : List ℕ
  ws = map (renamed h).wire (out_wires h)

  pub file_checked : (does (Check f)).answer ≡ good (I ∷ G ∷ O ∷ [])
  file_checked = check_told bit_family os (renamed h).gates ws (fair text owners ok) ∙ rw (owners_long text owners ok, outs_long text owners ok)

  pub file_size : length f ≡ size I G O
  file_size = length_file os (renamed h).gates ws ∙ rw (owners_long text owners ok, outs_long text owners ok)

  pub file_gate : (k : ℕ) → k < G → let g = get_or (our_gates (renamed h).wire h.gates) k (0, 0, 0) in (does (GateAt f k)).answer ≡ good (g.0 ∷ g.1 ∷ g.2 ∷ [])
  file_gate k l =
      gate_told os (renamed h).gates ws (limits text owners ok) k l
      ∙ ap (λ (gs : List Numbers3). let g = get_or gs k (0, 0, 0) in good (g.0 ∷ g.1 ∷ g.2 ∷ [])) (gates_in_order text owners ok)

  pub file_owner : (k : ℕ) → k < I → (does (OwnerAt f k)).answer ≡ good (get_or os k 0 ∷ [])
  file_owner k l = owner_told os (renamed h).gates ws (limits text owners ok) k (let e = owners_long text owners ok in omega arith)

  pub file_output : (k : ℕ) → k < O → (does (OutputAt f k)).answer ≡ good ((renamed h).wire (h.wires - O + k) ∷ [])
  file_output k l =
      output_told os (renamed h).gates ws (limits text owners ok) k (let e = outs_long text owners ok in omega arith)
      ∙ ap (λ (w : ℕ). good (w ∷ [])) (counted_at (renamed h).wire (h.wires - O) O k l)

  -- the inputs are bits, the buffer has a byte for each wire
  module _ (xs : List ℕ) where
    out_at : (o : ℕ) → o < O → get_or (text_outs text xs) o 0 ≡ get_or (bit_family.plain (circuit f) xs) ((circuit f).out o) 0
    out_at o l =
        ap (λ (vs : List ℕ). get_or vs o 0) (sym (same_outputs text owners ok xs))
        ∙ plain_outs_at bit_family (circuit f) xs (outputs_of f) o (let c = (counts_told text owners ok).2 in omega arith)

    pub file_plain : (values : List ℕ) → Bits xs I → length values ≡ I + G
        → ((does (Plain f xs values)).answer ≡ good [])
        × ((o : ℕ) → o < O → get_or (buffer 0 (Plain f xs values)) ((circuit f).out o) 0 ≡ get_or (text_outs text xs) o 0)
    file_plain values b long =
        let e = owners_long text owners ok in
        let p = plain_told bit_family os (renamed h).gates ws (fair text owners ok) bit_lawful xs values (rw e b) (omega arith) in
        (p.0, λ o l. ap (λ (vs : List ℕ). get_or vs ((circuit f).out o) 0) p.1 ∙ sym (out_at o l))

    pub file_opens : (t l outs tr st : List ℕ) → Accepts (Run f xs t l outs tr st) → Clean l
        → ((does (Run f xs t l outs tr st)).answer ≡ good []) × (buffer 0 (Run f xs t l outs tr st) ≡ flat_map (λ (v : ℕ). v ∷ v ∷ v ∷ []) (text_outs text xs))
    file_opens t l outs tr st a c =
        let r = clean_opens_plain bit_family bit_lawful f xs t l outs tr st (bits_fit xs) (bits_fit t) (bits_fit l) a c in
        (r.0, r.1 ∙ opened_thrice bit_family (circuit f) xs (outputs_of f) ∙ ap (flat_map (λ (v : ℕ). v ∷ v ∷ v ∷ [])) (same_outputs text owners ok xs))

-- whatever length the call answers, the file is so many bytes in front in the room
module _ (text owners room : List ℕ) (n : ℕ) (told : (does (FromBristol text owners room)).answer ≡ good (n ∷ [])) where
  abbrev called : Call
  called = FromBristol text owners room

  pub told_accepts : Accepts called
  told_accepts = good_accepts called (n ∷ []) told

  one_number : (a b : ℕ) → good (a ∷ []) ≡ good (b ∷ []) → a ≡ b
  one_number a b e = cc

  pub told_length : length (text_file text owners) ≡ n
  told_length = one_number _ _ (sym (call_answers text owners room told_accepts) ∙ told)

  pub told_file : take n (buffer 0 called) ≡ text_file text owners
  told_file = ap (λ (k : ℕ). take k (buffer 0 called)) (sym told_length) ∙ (call_writes text owners room told_accepts).1

  pub told_behind : drop n (buffer 0 called) ≡ drop n room
  told_behind = subst (λ (k : ℕ). drop k (buffer 0 called) ≡ drop k room) told_length (call_writes text owners room told_accepts).2
