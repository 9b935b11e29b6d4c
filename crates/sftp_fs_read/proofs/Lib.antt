mod ReadsLaws
mod MoveLaws
mod TicketLaws
mod HearLaws
pub mod FsReadLaws
pub mod ReadEnds
mod OpenLaws
