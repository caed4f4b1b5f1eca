-- Two programs that meet the claims give the same answers: one claim says where mode and table are shown, and which, and the other where each number
-- comes. Assumes nothing.
use Rattle.definitions.proofs.Outcome.{same-answer}
use Rattle.order_sheets_spec.specs.Claims.{SheetsAgree}

pub sheets_agree : SheetsAgree
sheets_agree = record {
  same = λ read read' r f r' f' text room.
      same-answer (read text room) (read' text room)
      (λ y e. (r'.exactly text room y.0 y.1).1 ((r.exactly text room y.0 y.1).0 e))
      (λ n e. (f'.exactly text room n).1 ((f.exactly text room n).0 e));
}
