-- `list_table::print::print_refusal`: the line of a refused table is its listing. Assumes nothing.
use Rattle.std.proofs.Common.{ℕ, ◌≡◌, List, [], ◌∷◌, refl, sym, ap, ◌∙◌, length, take, arith}
use Rattle.std.proofs.lemmas.Result.{IfOk-weaker}
use Rattle.answer.specs.declared.refusal.Refusal.{Refusal}
use Rattle.answer.specs.Refusal.{refusal_number}
use Rattle.answer.specs.Refusal.Laws.{refusal_not_done}
use Rattle.row_format.specs.Table.{table_number}
use Rattle.text.specs.Lines.{refused_line}
use Rattle.text.specs.Put.Laws.{put_front}
use Rattle.table_listing.specs.Listing.{lines, joined, table_listing}
use Rattle.table_listing.specs.Listing.Laws.{lines-refused, joined-one}
use Rattle.list_table.proofs.print.print_refusal.Goals as goal

some : (e : Refusal) → refusal_number e ≡ 0 → ⊥
some e n = omega (arith, refusal_not_done e)

module _ (t : List ℕ) (n : ℕ) (is : n ≡ table_number t) (refused : n ≡ 0 → ⊥) where
  line-is : lines t ≡ refused_line n ∷ []
  line-is = rw is (lines-refused t (λ e. refused (is ∙ e)))

  listing-is : table_listing t ≡ refused_line n
  listing-is = ap joined line-is ∙ joined-one (refused_line n)

pub print_lines-requires : goal.print_lines-requires
print_lines-requires c =
    let n : ℕ = refusal_number c.args.refusal in
    put_front c.put_refused_line-n.ensures.put
    ∙ rw (c.number.ensures, line-is c.args.table.now n c.requires (some c.args.refusal)) (sym (joined-one (refused_line n)))

pub returns-clause-whole : goal.returns-clause-whole
returns-clause-whole c =
    let n : ℕ = refusal_number c.args.refusal in
    let listing : table_listing c.args.table.now ≡ refused_line n = listing-is c.args.table.now n c.requires (some c.args.refusal) in
    IfOk-weaker c.print_lines.result (λ bytes. bytes ≡ length (take c.put_refused_line-n.result c.put_refused_line-n.new.out))
    (λ bytes. bytes ≡ length (table_listing c.args.table.now))
    (λ bytes e. e ∙ ap length (put_front c.put_refused_line-n.ensures.put) ∙ rw (c.number.ensures, listing) refl)
    c.print_lines.ensures
