mod GoingLaws
mod ListLaws
mod ListingLeaves
mod ListingTogether
mod ListingRuns
