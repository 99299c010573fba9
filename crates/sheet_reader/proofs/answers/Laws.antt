-- What a refusal answers. Assumes nothing.
use Rattle.std.specs.Prelude.{◌≡◌, Result}
use Rattle.std.specs.Result.{IsErrAnd}
use Rattle.std.proofs.lemmas.Result.{err_from_is_err_and}
use Rattle.answer.specs.declared.refusal.Refusal.{Refusal}
use Rattle.answer.specs.Refusal.{refusal_number}
use Rattle.sheet_format.specs.declared.RecordRead.{RecordRead}
use Rattle.sheet_format.specs.Reading.{refused_record}
use Rattle.sheet_reader.specs.declared.answers.Refused.{Refused}
use Rattle.sheet_reader.specs.Answers.{read_answer}

pub err-answer : (r : Result RecordRead Refused) (e : Refused) → IsErrAnd r (λ y. y ≡ e) → read_answer r ≡ refused_record e.at e.number
err-answer r e is = let p = err_from_is_err_and r is in rw (p.1, p.2)

pub refusal-answer : (r : Result RecordRead Refused) (e : Refusal) → IsErrAnd r (λ y. y ≡ record { number = refusal_number e; at = 0 })
    → read_answer r ≡ refused_record 0 (refusal_number e)
refusal-answer r e = err-answer r (record { number = refusal_number e; at = 0 })

pub into-answer : {x e : Refused} → x ≡ e → refused_record x.at x.number ≡ refused_record e.at e.number
into-answer is = rw is
