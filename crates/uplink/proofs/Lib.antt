mod UpLaws
