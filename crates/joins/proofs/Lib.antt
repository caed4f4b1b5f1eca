mod BodyLaws
mod SlotLaws
mod ReadLaws
mod CallLaws
