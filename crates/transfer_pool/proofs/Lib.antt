mod GoingLaws
mod TogetherLaws
mod WorkLaws
mod LegLaws
mod EndedCopies
mod JobLaws
