mod DownLaws
mod UpLaws
mod MachineLaws
