pub mod PlanLaws
mod StepLaws
mod KeepLaws
mod PlainLaws
mod OffsetLaws
mod TallyLaws
