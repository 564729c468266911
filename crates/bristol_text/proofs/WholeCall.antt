-- T-01's whole call.
--     call_good, good_call   it is accepted exactly if the text is good and the room has 20,000 bytes
--     call_answers           "the answer is the file's length"
--     call_writes            the file stands in front in the room, "and the bytes behind stay"
--     refused_writes_nothing a refusal changes no byte
--     from_bristol_tidy      so it is tidy: and whatever the answer, the room keeps its length
-- Assumes nothing.
use mathlib.Core.Path.{◌≡◌, refl, ap, ◌∙◌}
use mathlib.Core.List.{List, [], ◌∷◌}
use Prim.Native.Nat.{ℕ}
use native.Mathlib.Omega.{arith}
use lib.ListN.{length, get_or, take, drop}
use lib.Seq.{take_at}
use Rattle.theory_sharing.specs.Store.{fill}
use Rattle.theory_sharing.proofs.StoreLaws.{fill_length, fill_rest}
use Rattle.theory_calls.specs.Answer.{good, refused, After}
use Rattle.theory_calls.specs.Call.{Call, does, Accepts, buffer}
use Rattle.theory_calls.proofs.Refusals.{Passes}
use Rattle.theory_calls.proofs.RowLaws.{sizes_clear, clear_sizes}
use Rattle.theory_calls.proofs.CallLaws.{accepts_passes, passes_accepts, accepts_does, does_refused, refused_verdict}
use Rattle.theory_calls.proofs.Tidy.{Tidy, untouched}
use Rattle.theory_files.proofs.Asked.{one_size}
use Rattle.bristol_text.specs.Words.{lines}
use Rattle.bristol_text.specs.Renamed.{text_file}
use Rattle.bristol_text.specs.Call.{room_bytes, FromBristol}
use Rattle.bristol_text.specs.Good.{Good}
use Rattle.bristol_text.proofs.GoodText.{passes_good, good_passes}
use Rattle.bristol_text.proofs.TextFile.{file_small}

module _ (text owners room : List ℕ) where
  abbrev called : Call
  called = FromBristol text owners room

  abbrev f : List ℕ
  f = text_file text owners

  pub call_good : Accepts called → Good (lines text) owners × (length room ≡ room_bytes)
  unfolding Passes FromBristol
  call_good a =
      let h = accepts_passes called a in
      (passes_good (lines text) owners h.1, sizes_clear (length room ∷ []) (room_bytes ∷ []) 1 h.0 0 (omega arith))

  pub good_call : Good (lines text) owners → length room ≡ room_bytes → Accepts called
  unfolding Passes FromBristol
  good_call g l =
      passes_accepts called (clear_sizes (length room ∷ []) (room_bytes ∷ []) 1 (one_size (length room) room_bytes l), good_passes (lines text) owners g)

  pub call_answers : Accepts called → (does called).answer ≡ good (length f ∷ [])
  unfolding FromBristol
  call_answers a = ap (λ (z : After). z.answer) (accepts_does called a)

  filled : Accepts called → buffer 0 called ≡ fill room f
  unfolding FromBristol
  filled a = ap (λ (z : After). get_or z.lent 0 []) (accepts_does called a)

  pub call_writes : Accepts called
      → (length (buffer 0 called) ≡ length room) × (take (length f) (buffer 0 called) ≡ f) × (drop (length f) (buffer 0 called) ≡ drop (length f) room)
  unfolding fill
  call_writes a =
      let g = call_good a in
      let l = g.1 in
      let s = file_small text owners g.0 in (
        ap length (filled a) ∙ fill_length room f (omega arith),
        ap (take (length f)) (filled a) ∙ take_at f _ (length f) refl,
        ap (drop (length f)) (filled a) ∙ fill_rest room f,
      )

  pub refused_writes_nothing : (N P : ℕ) → (does called).answer ≡ refused N P → (does called).lent ≡ room ∷ []
  unfolding FromBristol
  refused_writes_nothing N P e = ap (λ (z : After). z.lent) (does_refused called N P (refused_verdict called N P e))

  pub from_bristol_tidy : Tidy called
  unfolding FromBristol
  from_bristol_tidy =
      untouched called (λ n. refl)
      (λ a. let g = call_good a in let l = g.1 in let s = file_small text owners g.0 in ap (λ (n : ℕ). n ∷ []) (fill_length room f (omega arith)))
